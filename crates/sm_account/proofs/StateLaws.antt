-- How the state goes on with the history.
use Rattle.std.proofs.Common.{◌≡◌, ℕ, ◌+◌, List, [], ◌∷◌, ◌++◌, length, refl, ap, ◌∙◌, append-nil, length-append, arith}
use Rattle.sm_base.specs.declared.moment.Moment.{Moment}
use Rattle.sm_model.specs.declared.entry.At.{At}
use Rattle.sm_model.specs.declared.entry.Entry.{Entry as entries}
use Rattle.sm_model.specs.declared.entry.Mark.{Mark}
use Rattle.sm_model.specs.declared.entry.Mark.TheVariants.{Entry, Claim, Fault}
use Rattle.sm_model.specs.declared.rows.Rows.{Rows}
use Rattle.sm_core.specs.Effects.{effect}
use Rattle.sm_core.specs.Histories.{replay, last_moment}
use Rattle.sm_account.specs.History.{entry_then, entries_in, fault_count, faults_in}
use Rattle.sm_account.specs.States.{size_of, sizes_of, Base, state_after, state_at, state_with}

entry_then_more : (mark : Mark) (a b : List entries) → entry_then mark (a ++ b) ≡ entry_then mark a ++ b
entry_then_more (Entry entry) a b = refl
entry_then_more (Claim arn at moment) a b = refl
entry_then_more Fault a b = refl

-- the entries of a history with one mark more
pub entries_more : (history : List (ℕ × Mark)) (seat : ℕ) (mark : Mark)
    → entries_in (history ++ (seat, mark) ∷ []) ≡ entries_in history ++ entry_then mark []
entries_more [] seat mark = refl
entries_more (x ∷ history) seat mark =
    ap (entry_then x.1) (entries_more history seat mark) ∙ entry_then_more x.1 (entries_in history) (entry_then mark [])

pub faults_more : (history : List (ℕ × Mark)) (seat : ℕ) (mark : Mark)
    → faults_in (history ++ (seat, mark) ∷ []) ≡ faults_in history + fault_count mark
faults_more [] seat mark = omega arith
faults_more (x ∷ history) seat mark = omega (arith, faults_more history seat mark)

pub replay_joined : (rows : Rows) (a b : List entries) → replay rows (a ++ b) ≡ replay (replay rows a) b
replay_joined rows [] b = refl
replay_joined rows (entry ∷ a) b = replay_joined (effect rows entry) a b

pub last_joined : (before : Moment) (a b : List entries)
    → last_moment before (a ++ b) ≡ last_moment (last_moment before a) b
last_joined before [] b = refl
last_joined before (entry ∷ a) b = last_joined entry.moment a b

pub sizes_more : (a : List entries) (entry : entries) → sizes_of (a ++ entry ∷ []) ≡ sizes_of a + size_of entry
sizes_more [] entry = omega arith
sizes_more (e ∷ a) entry = omega (arith, sizes_more a entry)

-- the state after one entry more
pub after_more : (base : Base) (a : List entries) (entry : entries)
    → state_after base (a ++ entry ∷ []) ≡ state_with (state_after base a) entry
after_more base a entry =
    let rows : replay base.rows (a ++ entry ∷ []) ≡ effect (replay base.rows a) entry =
    replay_joined base.rows a (entry ∷ []) in
    let last : last_moment base.last (a ++ entry ∷ []) ≡ entry.moment = last_joined base.last a (entry ∷ []) in
    let made : length (a ++ entry ∷ []) ≡ length a + 1 = length-append a (entry ∷ []) in
    let bytes : base.bytes + sizes_of (a ++ entry ∷ []) ≡ base.bytes + sizes_of a + size_of entry =
    omega (arith, sizes_more a entry) in
    cc

-- the state at a history with an entry more
pub state_more : (base : Base) (history : List (ℕ × Mark)) (seat : ℕ) (entry : entries)
    → state_at base (history ++ (seat, Entry entry) ∷ []) ≡ state_with (state_at base history) entry
state_more base history seat entry =
    ap (state_after base) (entries_more history seat (Entry entry)) ∙ after_more base (entries_in history) entry

-- the state at a history with a fault or a claim more
pub state_faulted : (base : Base) (history : List (ℕ × Mark)) (seat : ℕ)
    → state_at base (history ++ (seat, Fault) ∷ []) ≡ state_at base history
state_faulted base history seat =
    ap (state_after base) (entries_more history seat Fault ∙ append-nil (entries_in history))

pub state_claimed : (base : Base) (history : List (ℕ × Mark)) (seat : ℕ) (arn : List ℕ) (at : At) (moment : Moment)
    → state_at base (history ++ (seat, Claim arn at moment) ∷ []) ≡ state_at base history
state_claimed base history seat arn at moment =
    ap (state_after base) (entries_more history seat (Claim arn at moment) ∙ append-nil (entries_in history))
