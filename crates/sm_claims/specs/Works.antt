-- The work that a step of a rotation is, with the values as they stand.
-- AWS Secrets Manager User Guide: "Lambda rotation functions".
use Rattle.std.specs.Prelude.{◌≡◌, ⊤, ℕ, Bool, true, false, List, Option, Some, None, IsSomeAnd, option_map}
use Rattle.sm_model.specs.declared.rows.Job.{Job}
use Rattle.sm_model.specs.declared.rows.SecretRow.{SecretRow}
use Rattle.sm_model.specs.declared.rows.VersionRow.{VersionRow}
use Rattle.sm_model.specs.declared.value.Value.{Value}
use Rattle.sm_model.specs.Labels.{aws_current, holder}
use Rattle.sm_versions.specs.Versions.{value_of, version_of}
use Rattle.sm_rotation.specs.Step.{at_of}
use Rattle.sm_rotator.specs.Steps.{needs_current, needs_pending}
use Rattle.sm_rotator.specs.declared.work.Work.{Work}

-- the value of the version with the id, where there is an id
abbrev pub value_held : List VersionRow → Option (List ℕ) → Option Value
value_held versions None = None
value_held versions (Some id) = value_of versions id

-- the value of the version that holds AWSCURRENT
abbrev pub current_value : SecretRow → Option Value
current_value row = value_held row.versions (holder row.labels aws_current)

-- a value where it is wanted
abbrev pub value_if : Bool → Option Value → Option Value
value_if true value = value
value_if false value = None

-- the work of the step that the job is at
pub record IsWorkOfJob (row : SecretRow) (job : Job) (work : Work) : Type 0 where
  pub arn : work.arn ≡ row.arn
  pub at : work.at ≡ at_of job
  pub secret : work.secret ≡ row.serial
  pub version : option_map (λ (v : VersionRow). v.serial) (version_of row.versions job.token) ≡ Some work.version
  pub current : work.current ≡ value_if (needs_current job.stage) (current_value row)
  pub pending : work.pending ≡ value_if (needs_pending job.stage) (value_of row.versions job.token)

-- the secret has a job, and it is the work of that job's step
abbrev pub IsWorkOf : SecretRow → Work → Type 0
IsWorkOf row work = IsSomeAnd row.job (λ job. IsWorkOfJob row job work)

-- there is a work exactly where there is a secret, and it is of that secret
abbrev pub AreWorkOf : Option SecretRow → Option Work → Type 0
AreWorkOf None None = ⊤
AreWorkOf None (Some work) = ⊥
AreWorkOf (Some row) None = ⊥
AreWorkOf (Some row) (Some work) = IsWorkOf row work
