-- Secrets whose rotation is due.
-- AWS Secrets Manager User Guide: "Rotation schedules".
use Rattle.std.specs.Prelude.{ℕ, Bool, false, ◌||◌, List, [], ◌∷◌, Option, Some, None, if◌then◌else◌}
use Rattle.sm_base.specs.declared.moment.Moment.{Moment}
use Rattle.sm_model.specs.declared.rows.SecretRow.{SecretRow}
use Rattle.sm_versions.specs.Due.{is_due, is_due_for}

-- some secret is due for a token that none of its versions has
abbrev pub has_due : List SecretRow → Moment → Bool
has_due [] moment = false
has_due (row ∷ rows) moment = is_due row moment || has_due rows moment

-- the first secret that is due for the token, in order of creation
abbrev pub first_due : List SecretRow → Moment → List ℕ → Option SecretRow
first_due [] moment token = None
first_due (row ∷ rows) moment token =
    if is_due_for row moment token then Some row else first_due rows moment token

-- this secret, if there is one and it is due for the token
abbrev pub due_of : Moment → List ℕ → Option SecretRow → Option SecretRow
due_of moment token None = None
due_of moment token (Some row) = if is_due_for row moment token then Some row else None
