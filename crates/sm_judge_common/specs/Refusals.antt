-- Refusals and repeats as tests on the rows, apart from any judgement.
use Rattle.std.specs.Prelude.{Bool, false, if◌then◌else◌, List, [], ◌∷◌, Option, Some, None}
use Rattle.sm_base.specs.declared.moment.Moment.{Moment}
use Rattle.sm_model.specs.declared.rows.SecretRow.{SecretRow}
use Rattle.sm_model.specs.declared.why.Why.{Why}
use Rattle.sm_model.specs.declared.why.Why.TheVariants.{NoSecret, Scheduled}

-- a test, with the refusal where it fails
abbrev pub refuse_if : Bool → Why → Option Why
refuse_if fails why = if fails then Some why else None

-- the first of some tests that fails
abbrev pub first_refusal : List (Option Why) → Option Why
first_refusal [] = None
first_refusal (None ∷ tests) = first_refusal tests
first_refusal (Some why ∷ tests) = Some why

-- the secret is there
abbrev pub unless_there : Option SecretRow → Option Why
unless_there None = Some NoSecret
unless_there (Some row) = None

-- a secret is not scheduled for deletion
abbrev pub scheduled_refusal : Option Moment → Option Why
scheduled_refusal None = None
scheduled_refusal (Some date) = Some (Scheduled date)

-- the secret is there, it is not scheduled for deletion, and then come the tests on its row
abbrev pub refusal_at : Option SecretRow → (SecretRow → Option Why) → Option Why
refusal_at None tests = Some NoSecret
refusal_at (Some row) tests = first_refusal (scheduled_refusal row.deletion ∷ tests row ∷ [])

-- the secret is there, and its row shows that the request was carried out before
abbrev pub repeat_at : Option SecretRow → (SecretRow → Bool) → Bool
repeat_at None is_repeat = false
repeat_at (Some row) is_repeat = is_repeat row
