-- Steps of rotations that are ready: nobody has claimed them, and they may be taken up.
-- AWS Secrets Manager User Guide: "Lambda rotation functions".
use Rattle.std.specs.Prelude.{ℕ, Bool, false, not, ◌&&◌, nat_le, List, [], ◌∷◌, Option, Some, None, if◌then◌else◌}
use Rattle.sm_base.specs.declared.moment.Moment.{Moment}
use Rattle.sm_model.specs.declared.entry.Mark.{Mark}
use Rattle.sm_model.specs.declared.rows.Job.{Job}
use Rattle.sm_model.specs.declared.rows.SecretRow.{SecretRow}
use Rattle.sm_versions.specs.Settle.{is_live}
use Rattle.sm_table.specs.Changes.{row_with}
use Rattle.sm_table.specs.Found.{or_else}
use Rattle.sm_claims.specs.Claims.{is_claimed}

-- the job is live, its next attempt may be made at the moment, and no claim of its step is open then
abbrev pub is_ready_job : List (ℕ × Mark) → Moment → SecretRow → Job → Bool
is_ready_job history moment row job =
    nat_le job.retry_at.0 moment.0 && is_live row job && not (is_claimed history row.arn job moment)

abbrev pub is_ready_if : List (ℕ × Mark) → Moment → SecretRow → Option Job → Bool
is_ready_if history moment row None = false
is_ready_if history moment row (Some job) = is_ready_job history moment row job

-- the secret has a job that is ready
abbrev pub is_ready : List (ℕ × Mark) → Moment → SecretRow → Bool
is_ready history moment row = is_ready_if history moment row row.job

-- the first secret that has one, in order of creation
abbrev pub first_ready : List (ℕ × Mark) → Moment → List SecretRow → Option SecretRow
first_ready history moment [] = None
first_ready history moment (row ∷ rows) =
    if is_ready history moment row then Some row else first_ready history moment rows

-- this secret, if there is one and it has a job that is ready
abbrev pub ready_of : List (ℕ × Mark) → Moment → Option SecretRow → Option SecretRow
ready_of history moment None = None
ready_of history moment (Some row) = if is_ready history moment row then Some row else None

-- the first that is ready of the secrets with these serials
abbrev pub first_ready_of : List (ℕ × Mark) → Moment → List SecretRow → List ℕ → Option SecretRow
first_ready_of history moment rows [] = None
first_ready_of history moment rows (n ∷ ns) =
    or_else (ready_of history moment (row_with rows n)) (first_ready_of history moment rows ns)
