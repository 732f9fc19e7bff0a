-- Histories: the accepted changes of an account in order, and the rows that they make.
use Rattle.std.specs.Prelude.{◌≡◌, ◌⊎◌, ℕ, ◌≤◌, max, Bool, true, ◌&&◌, nat_eq, List, [], ◌∷◌, length, None, IsSome, IsTrue}
use Rattle.sm_base.specs.declared.moment.Moment.{Moment}
use Rattle.sm_base.specs.declared.moment.TheConstants.{LAST_READING}
use Rattle.sm_model.specs.declared.entry.Act.{Act}
use Rattle.sm_model.specs.declared.entry.Act.TheVariants.{Asked, Begun, Reported}
use Rattle.sm_model.specs.declared.entry.Entry.{Entry}
use Rattle.sm_model.specs.declared.request.Request.{Request}
use Rattle.sm_model.specs.declared.rows.Rows.{Rows}
use Rattle.sm_model.specs.Needed.{needed}
use Rattle.sm_model.specs.Versions.{When}
use Rattle.sm_table.specs.Sound.{Sound}
use Rattle.sm_forms.specs.Forms.{forms_of}
use Rattle.sm_judge_common.specs.declared.judged.Judged.{Judged}
use Rattle.sm_judge_common.specs.declared.judged.Judged.TheVariants.{Accept, Refuse, Memory}
use Rattle.sm_judge_rotations.specs.Begun.{MayBegin}
use Rattle.sm_judge_rotations.specs.Reported.{MayReport}
use Rattle.sm_core.specs.Judging.{judgement, is_of_nobody}
use Rattle.sm_core.specs.Effects.{when_of, effect}

-- no secrets
abbrev pub no_rows : Rows
no_rows = record { next = 0; secrets = [] }

-- the rows after the entries of a history
abbrev pub replay : Rows → List Entry → Rows
replay rows [] = rows
replay rows (entry ∷ entries) = replay (effect rows entry) entries

-- the moment of the last entry, or one that was before it
abbrev pub last_moment : Moment → List Entry → Moment
last_moment before [] = before
last_moment before (entry ∷ entries) = last_moment entry.moment entries

abbrev pub later : Moment → Moment → Moment
later a b = record { 0 = max a.0 b.0 }

-- An operation's moment: the greater of the last entry's moment and the clock's reading. Before the entries of a
-- history stands the last moment of what they are based on.
abbrev pub moment_of : Moment → List Entry → Moment → Moment
moment_of before entries now = later (last_moment before entries) now

-- the request is accepted and makes an entry
abbrev pub IsDue : Judged → Type 0
IsDue (Accept reply change) = IsSome change
IsDue (Refuse why) = ⊥
IsDue Memory = ⊥

-- A request may stand in a history where it makes an entry. So may the forced deletion of a secret that is not there:
-- it makes none now, and one that stands changes nothing.
abbrev pub MayBeAsked : Rows → When → List ℕ → Request → Type 0
MayBeAsked rows when drawn request =
    IsDue (judgement rows when drawn request) ⊎ IsTrue (is_of_nobody rows when.moment request)

-- An entry of a request is legal at rows where the request has as many random bytes as it needs, its forms and all
-- tests pass, and it is no repeat. The start of a rotation is legal where one is due for the token of its random bytes,
-- and an answer to a step, which has no random bytes, where the secret's job is at that step.
abbrev pub LegalAct : Rows → When → List ℕ → Act → Type 0
LegalAct rows when drawn (Asked request) =
    (length drawn ≡ needed request) × (forms_of request ≡ None) × MayBeAsked rows when drawn request
LegalAct rows when drawn (Begun arn) = MayBegin rows when drawn arn
LegalAct rows when drawn (Reported arn at answer) = (length drawn ≡ 0) × MayReport rows when.moment arn at

-- nobody asks for the start of a due rotation, or answers to a step: neither a key nor an ARN stands with them
abbrev pub may_be_by : List ℕ → List ℕ → Act → Bool
may_be_by caller by (Asked request) = true
may_be_by caller by (Begun arn) = nat_eq (length caller) 0 && nat_eq (length by) 0
may_be_by caller by (Reported arn at answer) = nat_eq (length caller) 0 && nat_eq (length by) 0

-- what stands beside an act: nobody with what nobody asks for
abbrev pub may_stand : Entry → Bool
may_stand entry = may_be_by entry.caller entry.by entry.act

-- an entry is legal at rows where its act is, and where what stands beside that may
abbrev pub LegalEntry : Rows → Entry → Type 0
LegalEntry rows entry = IsTrue (may_stand entry) × LegalAct rows (when_of entry) entry.drawn entry.act

-- each entry's moment is at least that of the one before it, and each is legal at the rows of those before it
abbrev pub Legal : Rows → Moment → List Entry → Type 0
Legal rows before [] = Unit {0}
Legal rows before (entry ∷ entries) =
    (before.0 ≤ entry.moment.0) × LegalEntry rows entry × Legal (effect rows entry) entry.moment entries

-- a clock can give each entry's moment
abbrev pub InTime : List Entry → Type 0
InTime [] = Unit {0}
InTime (entry ∷ entries) = (entry.moment.0 ≤ LAST_READING) × InTime entries

-- sound rows stay sound along a legal history
abbrev pub LegalKeepsSound : Type 0
LegalKeepsSound =
    (rows : Rows) → (before : Moment) → (entries : List Entry) → Sound rows → Legal rows before entries → InTime entries
    → Sound (replay rows entries)
