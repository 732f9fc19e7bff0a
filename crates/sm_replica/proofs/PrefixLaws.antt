-- A replica is a prefix.
use Rattle.std.proofs.Common.{◌≡◌, inl, inr, ℕ, zero, suc, ◌+◌, ◌-◌, ◌<◌, ◌≤◌, max, min, Bool, true, false, cond, ltb, List, [], ◌∷◌, ◌++◌, length, take, drop, Some, None, refl, sym, ap, subst, ◌∙◌, arith, length-append, length-take, length-drop, take-append-drop, take-add, drop-drop}
use Rattle.std.proofs.lemmas.Bool.{cases_lt, ltb-true, ltb-false}
use Rattle.std.proofs.lemmas.List.{take_all}
use Rattle.sm_base.specs.declared.moment.Moment.{Moment}
use Rattle.sm_core.specs.Effects.{effect}
use Rattle.sm_core.specs.Histories.{replay, last_moment, Legal, InTime}
use Rattle.sm_replication.specs.declared.frame.Frame.{Frame as frames}
use Rattle.sm_replication.specs.declared.frame.Frame.TheVariants as frame
use Rattle.sm_replication.specs.declared.frame.TheConstants.{FRAME_ENTRIES}
use Rattle.sm_model.specs.declared.entry.Entry.{Entry}
use Rattle.sm_model.specs.declared.rows.Rows.{Rows}
use Rattle.sm_record.specs.declared.base.Base.{Base}
use Rattle.sm_recovery.specs.Following.{origin, after_all, MayCome}
use Rattle.sm_recovery.proofs.FollowLemmas.{nothing_sound, after_joined, after_rows, after_last, after_count, come_front}
use Rattle.sm_recovery.proofs.SoundLaws.{come_sound}
use Rattle.sm_base_check.specs.Bases.{IsSound}
use Rattle.sm_replica.specs.declared.replica.Taken.{Taken}
use Rattle.sm_replica.specs.declared.replica.Taken.TheVariants.{At, Ahead, Broken, Promoted, Memory}
use Rattle.sm_replica.specs.Histories.{IsHistory, point, IsAt, AreFrom, IsOf, Step, Says, held_after, frames_in}
use Rattle.sm_replica.specs.Laws.{FollowsHistory, ShipsOfHistory, CatchesUp}
use Rattle.sm_replica.specs.Shipping.{entries_at, next_frame, end_of, Ships}
use Rattle.sm_replica.specs.Taking.{fresh, Follows, TakesEntries, MayStand, Stands, TakesRows, TakesFrame}

-- ---- parts of lists

abbrev no_entries : List Entry
no_entries = []

take_none : (n : ℕ) → take n no_entries ≡ no_entries
take_none zero = refl
take_none (suc n) = refl

take_take : (n m : ℕ) (xs : List Entry) → take n (take m xs) ≡ take (min n m) xs
take_take zero m xs = let none : 0 ≡ min 0 m = omega arith in ap (λ (k : ℕ). take k xs) none
take_take (suc n) zero xs = let none : 0 ≡ min (suc n) 0 = omega arith in ap (λ (k : ℕ). take k xs) none
take_take (suc n) (suc m) [] = sym (take_none (min (suc n) (suc m)))
take_take (suc n) (suc m) (x ∷ xs) =
    ap (λ (ys : List Entry). x ∷ ys) (take_take n m xs)
    ∙ ap (λ (k : ℕ). take k (x ∷ xs)) (one_more n m)
  where
    one_more : (a b : ℕ) → suc (min a b) ≡ min (suc a) (suc b)
    one_more a b = omega arith

drop_take : (n m : ℕ) (xs : List Entry) → drop n (take m xs) ≡ take (m - n) (drop n xs)
drop_take zero m xs = let all : m ≡ m - 0 = omega arith in ap (λ (k : ℕ). take k xs) all
drop_take (suc n) zero xs =
    let none : 0 ≡ 0 - suc n = omega arith in ap (λ (k : ℕ). take k (drop (suc n) xs)) none
drop_take (suc n) (suc m) [] = sym (take_none (suc m - suc n))
drop_take (suc n) (suc m) (x ∷ xs) =
    drop_take n m xs ∙ ap (λ (k : ℕ). take k (drop n xs)) (less n m)
  where
    less : (a b : ℕ) → b - a ≡ suc b - suc a
    less a b = omega arith

-- ---- histories

legal_behind : (rows : Rows) (before : Moment) (es fs : List Entry) → Legal rows before (es ++ fs)
    → Legal (replay rows es) (last_moment before es) fs
legal_behind rows before [] fs legal = legal
legal_behind rows before (e ∷ es) fs legal = legal_behind (effect rows e) e.moment es fs legal.2

-- entries that may come behind others
come_behind : (base : Base) (es fs : List Entry) → MayCome base (es ++ fs) → MayCome (after_all base es) fs
come_behind base es fs come = record {
  legal = subst (λ (rows : Rows). Legal rows (after_all base es).last fs) (sym (after_rows base es))
      (subst (λ (m : Moment). Legal (replay base.rows es) m fs) (sym (after_last base es))
      (legal_behind base.rows base.last es fs come.legal));
  counted = omega (arith, come.counted, after_count base es, length-append es fs);
}

timely_front : (n : ℕ) (entries : List Entry) → InTime entries → InTime (take n entries)
timely_front zero entries early = tt
timely_front (suc n) [] early = tt
timely_front (suc n) (e ∷ es) early = (early.0, timely_front n es early.1)

module _ (history : List Entry) (h : IsHistory history) where
  cut_in : (n k : ℕ) → history ≡ take n history ++ (take k (drop n history) ++ drop k (drop n history))
  cut_in n k =
      sym (take-append-drop n history)
      ∙ ap (λ (xs : List Entry). take n history ++ xs) (sym (take-append-drop k (drop n history)))

  -- the next entries may come at each place
  next_come : (n k : ℕ) → MayCome (point history n) (take k (drop n history))
  next_come n k =
      come_front (point history n) (take k (drop n history)) (drop k (drop n history))
      (come_behind origin (take n history) (take k (drop n history) ++ drop k (drop n history))
      (subst (MayCome origin) (cut_in n k) h.come))

  -- what stands at each place is sound, and counted
  point_sound : (n : ℕ) → IsSound (point history n)
  point_sound n =
      come_sound origin (take n history) nothing_sound
      (come_front origin (take n history) (drop n history)
      (subst (MayCome origin) (sym (take-append-drop n history)) h.come))
      (timely_front n history h.timely)

  point_counted : (n : ℕ) → n ≤ length history → (point history n).entries ≡ n
  point_counted n le = omega (arith, after_count origin (take n history), length-take n history, le)

  at_counted : (n : ℕ) (base : Base) → IsAt history n base → base.entries ≡ n
  at_counted n base is = ap (λ (b : Base). b.entries) is.is ∙ point_counted n is.within

  at_stands : (n : ℕ) (base : Base) → IsAt history n base → MayStand n base
  at_stands n base is = record {
    sound = subst IsSound (sym is.is) (point_sound n);
    counted = at_counted n base is;
  }

  -- entries of the history that stand here or before, without those before
  fresh_are : (n at : ℕ) (entries : List Entry) → at ≤ n → AreFrom history at entries
      → fresh n at entries ≡ take (length entries - (n - at)) (drop n history)
  fresh_are n at entries le from =
      let there : at + (n - at) ≡ n = omega (arith, le) in
      ap (drop (n - at)) from.are
      ∙ drop_take (n - at) (length entries) (drop at history)
      ∙ ap (take (length entries - (n - at))) (drop-drop (n - at) at history)
      ∙ ap (λ (k : ℕ). take (length entries - (n - at)) (drop k history)) there

  -- What a frame brings a replica to: so many entries, never fewer, which the answer tells; and where memory is there,
  -- at least as many as the frame tells of.
  record Reaches (n end : ℕ) (answer : Taken) (new : Base) : Type 0 where
    count : ℕ
    rises : n ≤ count
    is : IsAt history count new
    says : Says n count answer
    reached : (answer ≡ Memory → ⊥) → count ≡ max n end

  stays_at : (n : ℕ) (old new : Base) → IsAt history n old → new ≡ old → IsAt history n new
  stays_at n old new is same = subst (IsAt history n) (sym same) is

  module _ (n : ℕ) (old new : Base) (is : IsAt history n old) where
    module _ (at : ℕ) (entries : List Entry) (from : AreFrom history at entries) (le : at ≤ n) where
      new_ones : List Entry
      new_ones = take (length entries - (n - at)) (drop n history)

      come : MayCome old (fresh n at entries)
      come = subst (λ (b : Base). MayCome b (fresh n at entries)) (sym is.is)
          (subst (MayCome (point history n)) (sym (fresh_are n at entries le from))
          (next_come n (length entries - (n - at))))

      follows_reaches : (answer : Taken) → Follows old (n - at) (fresh n at entries) answer new
          → Reaches n (at + length entries) answer new
      follows_reaches (At position) follows =
          let k : ℕ = length entries - (n - at) in
          let within : n + k ≤ length history = omega (arith, from.within, le, is.within) in
          let now : IsAt history (n + k) new = record {
            within = within;
            is = follows.1 ∙ ap (after_all old) (fresh_are n at entries le from)
                ∙ ap (λ (b : Base). after_all b (take k (drop n history))) is.is
                ∙ sym (after_joined origin (take n history) (take k (drop n history)))
                ∙ ap (after_all origin) (sym (take-add n k history));
          } in
          record {
            count = n + k;
            rises = omega arith;
            is = now;
            says = follows.2 ∙ at_counted (n + k) new now;
            reached = λ _. omega (arith, le);
          }
      follows_reaches (Ahead position) follows = absurd follows
      follows_reaches (Broken place) follows =
          let stops = follows.0.1 in
          absurd (stops.not (come_front old (take (follows.0.0 + 1) (fresh n at entries))
          (drop (follows.0.0 + 1) (fresh n at entries))
          (subst (MayCome old) (sym (take-append-drop (follows.0.0 + 1) (fresh n at entries))) come)))
      follows_reaches Promoted follows = absurd follows
      follows_reaches Memory follows = record {
        count = n;
        rises = omega arith;
        is = stays_at n old new is follows;
        says = refl;
        reached = λ none. absurd (none refl);
      }

    stands_reaches : (at : ℕ) (base : Base) → IsAt history at base → n < at → (answer : Taken)
        → Stands old at base answer new → Reaches n at answer new
    stands_reaches at base there lt (At position) stands = record {
      count = at;
      rises = omega (arith, lt);
      is = stays_at at base new there stands.1;
      says = stands.2;
      reached = λ _. omega (arith, lt);
    }
    stands_reaches at base there lt (Ahead position) stands = absurd stands
    stands_reaches at base there lt (Broken place) stands = absurd (stands.0 (at_stands at base there))
    stands_reaches at base there lt Promoted stands = absurd stands
    stands_reaches at base there lt Memory stands = record {
      count = n;
      rises = omega arith;
      is = stays_at n old new is stands;
      says = refl;
      reached = λ none. absurd (none refl);
    }

    -- frames that begin at the position or below it
    entries_reach : (at : ℕ) (entries : List Entry) (answer : Taken) → AreFrom history at entries
        → TakesEntries old at entries answer new → at ≤ n → Reaches n (at + length entries) answer new
    entries_reach at entries answer from (inl ahead) le =
        absurd (omega (arith, ahead.0, at_counted n old is, le))
    entries_reach at entries answer from (inr takes) le =
        follows_reaches at entries from le answer
        (subst (λ (m : ℕ). Follows old (m - at) (fresh m at entries) answer new) (at_counted n old is) takes.1)

    -- rows past the position
    rows_reach : (at : ℕ) (base : Base) (answer : Taken) → IsAt history at base → TakesRows old at base answer new
        → n < at → Reaches n at answer new
    rows_reach at base answer there (inl below) lt =
        absurd (omega (arith, below.0, at_counted n old is, lt))
    rows_reach at base answer there (inr takes) lt = stands_reaches at base there lt answer takes.1

    -- nothing is taken
    ahead_says : (answer : Taken) → answer ≡ Ahead old.entries → Says n n answer
    ahead_says answer e =
        subst (Says n n) (sym e) (at_counted n old is, refl)

    at_says : (answer : Taken) → answer ≡ At old.entries → Says n n answer
    at_says answer e = subst (Says n n) (sym e) (at_counted n old is)

    -- what each frame of the history brings it to
    pub climbs : (f : frames) (answer : Taken) → IsOf history f → TakesFrame old f answer new
        → (m : ℕ) × (n ≤ m) × IsAt history m new × Says n m answer
    climbs (frame.Entries at entries) answer from (inl ahead) =
        (n, omega arith, stays_at n old new is ahead.2, ahead_says answer ahead.1)
    climbs (frame.Entries at entries) answer from (inr takes) =
        let r = entries_reach at entries answer from (inr takes) (omega (arith, takes.0, at_counted n old is)) in
        (r.count, r.rises, r.is, r.says)
    climbs (frame.Rows at base) answer there (inl below) =
        (n, omega arith, stays_at n old new is below.2, at_says answer below.1)
    climbs (frame.Rows at base) answer there (inr takes) =
        let r = rows_reach at base answer there (inr takes) (omega (arith, takes.0, at_counted n old is)) in
        (r.count, r.rises, r.is, r.says)

pub follows_history : FollowsHistory
follows_history history n old [] h is each takes = tt
follows_history history n old (step ∷ steps) h is each takes =
    let one = climbs history h n old step.after is step.frame step.answer each.0 takes.0 in
    (one.0, one.1, one.2, one.3, follows_history history one.0 step.after steps h one.2 each.1 takes.1)

-- ---- the frames of an account

no_frame : (f : frames) → None ≡ Some f → ⊥
no_frame f e = cc

frame_is : (f g : frames) → Some f ≡ Some g → f ≡ g
frame_is f g e = cc

-- the next frame is the rows of the base, or entries
pub data Next (base : Base) (entries : List Entry) (position : ℕ) (f : frames) : Type 0 where
  rows_next : position < base.entries → frame.Rows base.entries base ≡ f → Next base entries position f
  entries_next : base.entries ≤ position → (part : List Entry)
      → part ≡ take FRAME_ENTRIES (drop (position - base.entries) entries) → 0 < length part
      → frame.Entries position part ≡ f → Next base entries position f

pub next_is : (base : Base) (entries : List Entry) (position : ℕ) (f : frames)
    → next_frame base entries position ≡ Some f → Next base entries position f
next_is base entries position f e = by (ltb position base.entries) refl e
  where
    part : List Entry
    part = take FRAME_ENTRIES (drop (position - base.entries) entries)

    some : (es : List Entry) → part ≡ es → base.entries ≤ position → entries_at position es ≡ Some f
        → Next base entries position f
    some [] is le e = absurd (no_frame f e)
    some (x ∷ xs) is le e =
        entries_next le (x ∷ xs) (sym is) (omega arith) (frame_is (frame.Entries position (x ∷ xs)) f e)

    by : (below : Bool) → ltb position base.entries ≡ below
        → cond below (Some (frame.Rows base.entries base)) (entries_at position part) ≡ Some f
        → Next base entries position f
    by true is e =
        rows_next (ltb-true position base.entries is) (frame_is (frame.Rows base.entries base) f e)
    by false is e = some part refl (ltb-false position base.entries is) e

-- where there is no next frame the end is reached
none_next : (base : Base) (entries : List Entry) (position : ℕ) → next_frame base entries position ≡ None
    → base.entries + length entries ≤ position
none_next base entries position e = by (ltb position base.entries) refl e
  where
    rest : List Entry
    rest = drop (position - base.entries) entries

    some_none : (f : frames) → Some f ≡ None → ⊥
    some_none f e = cc

    none : (es : List Entry) → take FRAME_ENTRIES rest ≡ es → base.entries ≤ position → entries_at position es ≡ None
        → base.entries + length entries ≤ position
    none [] is le e =
        omega (arith, ap length is, length-take FRAME_ENTRIES rest, length-drop (position - base.entries) entries, le)
    none (x ∷ xs) is le e = absurd (some_none (frame.Entries position (x ∷ xs)) e)

    by : (below : Bool) → ltb position base.entries ≡ below
        → cond below (Some (frame.Rows base.entries base)) (entries_at position (take FRAME_ENTRIES rest)) ≡ None
        → base.entries + length entries ≤ position
    by true is e = absurd (some_none (frame.Rows base.entries base) e)
    by false is e = none (take FRAME_ENTRIES rest) refl (ltb-false position base.entries is) e

module _ (history : List Entry) (n : ℕ) (base : Base) (entries : List Entry) (counted : base.entries ≡ n)
    (from : AreFrom history n entries) where
  -- a part of an account's entries is one of the history's
  part_from : (position : ℕ) (part : List Entry) → n ≤ position
      → part ≡ take FRAME_ENTRIES (drop (position - base.entries) entries) → 0 < length part
      → AreFrom history position part
  part_from position part le is some =
      let behind : ℕ = position - n in
      let k : ℕ = min FRAME_ENTRIES (length entries - behind) in
      let there : n + behind ≡ position = omega (arith, le) in
      let of : part ≡ take k (drop position history) =
      is ∙ ap (λ (m : ℕ). take FRAME_ENTRIES (drop (position - m) entries)) counted
      ∙ ap (λ (xs : List Entry). take FRAME_ENTRIES (drop behind xs)) from.are
      ∙ ap (take FRAME_ENTRIES) (drop_take behind (length entries) (drop n history)
      ∙ ap (take (length entries - behind)) (drop-drop behind n history)
      ∙ ap (λ (m : ℕ). take (length entries - behind) (drop m history)) there)
      ∙ take_take FRAME_ENTRIES (length entries - behind) (drop position history) in
      let size : length part ≤ k = omega (arith, ap length of, length-take k (drop position history)) in
      let few : n + behind + length part ≤ n + length entries = omega (arith, size, some) in
      record {
        within = omega (arith, few, there, from.within);
        are = of ∙ same_take k (drop position history) (ap length of);
      }
    where
      same_take : (m : ℕ) (xs : List Entry) → length part ≡ length (take m xs) → take m xs ≡ take (length part) xs
      same_take m xs size =
          elim (cases_lt (length xs) m) [
            | inl long ↦
                take_all m xs (omega (arith, long))
                ∙ sym (take_all (length part) xs (omega (arith, size, length-take m xs, long)))
            | inr short ↦ ap (λ (j : ℕ). take j xs) (omega (arith, size, length-take m xs, short))
          ]

pub ships_of_history : ShipsOfHistory
ships_of_history history n base entries position [] is from ships = tt
ships_of_history history n base entries position (f ∷ fs) is from ships = (
  by (next_is base entries position f ships.0),
  ships_of_history history n base entries (end_of f) fs is from ships.1,
)
  where
    counted : base.entries ≡ n
    counted = ap (λ (b : Base). b.entries) is.is
        ∙ omega (arith, after_count origin (take n history), length-take n history, is.within)

    by : Next base entries position f → IsOf history f
    by (rows_next lt e) =
        subst (IsOf history) e (subst (λ (m : ℕ). IsAt history m base) (sym counted) is)
    by (entries_next le part part_is some e) =
        subst (IsOf history) e
        (part_from history n base entries counted from position part (omega (arith, le, counted)) part_is some)

-- what is so of what a frame leaves, where it brings a replica so far
abbrev FromHere : List Entry → ℕ → ℕ → Base → List Entry → Step → List Step → Type 0
FromHere history n position base entries step steps = (m : ℕ) → end_of step.frame ≡ m → IsAt history m step.after
    → m ≤ n + length entries → IsAt history (n + length entries) (held_after step.after steps)

module _ (history : List Entry) (h : IsHistory history) (n : ℕ) (base : Base) (entries : List Entry) (position : ℕ)
    (old : Base) (is : IsAt history n base) (from : AreFrom history n entries) (here : IsAt history position old)
    (step : Step) (steps : List Step) (takes : TakesFrame old step.frame step.answer step.after)
    (memory : step.answer ≡ Memory → ⊥) (onward : FromHere history n position base entries step steps) where
  counted : base.entries ≡ n
  counted = at_counted history h n base is

  goes_on : Next base entries position step.frame → IsAt history (n + length entries) (held_after step.after steps)
  goes_on (rows_next lt e) =
      let r : Reaches history h position base.entries step.answer step.after =
      rows_reach history h position old step.after here base.entries base step.answer
      (subst (λ (m : ℕ). IsAt history m base) (sym counted) is)
      (subst (λ (f : frames). TakesFrame old f step.answer step.after) (sym e) takes) lt in
      let reached : r.count ≡ base.entries = omega (arith, r.reached memory, lt) in
      onward base.entries (ap end_of (sym e)) (subst (λ (m : ℕ). IsAt history m step.after) reached r.is)
      (omega (arith, counted))
  goes_on (entries_next le part part_is some e) =
      let part_of : AreFrom history position part =
      part_from history n base entries counted from position part (omega (arith, le, counted)) part_is some in
      let r : Reaches history h position (position + length part) step.answer step.after =
      entries_reach history h position old step.after here position part step.answer part_of
      (subst (λ (f : frames). TakesFrame old f step.answer step.after) (sym e) takes) (omega arith) in
      let reached : r.count ≡ position + length part = omega (arith, r.reached memory) in
      let short : length part ≤ length entries - (position - base.entries) =
      omega (
        arith,
        ap length part_is,
        length-take FRAME_ENTRIES (drop (position - base.entries) entries),
        length-drop (position - base.entries) entries,
      ) in
      onward (position + length part) (ap end_of (sym e))
      (subst (λ (m : ℕ). IsAt history m step.after) reached r.is) (omega (arith, short, some, counted, le))

pub catches_up : CatchesUp
catches_up history n base entries position old [] h is from here before ships takes memory =
    let base_is : base.entries ≡ n = at_counted history h n base is in
    let end : position ≡ n + length entries =
    omega (arith, none_next base entries position ships, base_is, before) in
    subst (λ (m : ℕ). IsAt history m old) end here
catches_up history n base entries position old (step ∷ steps) h is from here before ships takes memory =
    goes_on history h n base entries position old is from here step steps takes.0 memory.0
    (λ m end there le. catches_up history n base entries m step.after steps h is from there le
    (subst (λ (k : ℕ). Ships base entries k (frames_in steps)) end ships.1) takes.1 memory.1)
    (next_is base entries position step.frame ships.0)
