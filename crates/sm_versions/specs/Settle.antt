-- The end of every change of a secret: its rotation under way, if there is one, is settled.
-- AWS Secrets Manager User Guide: "Rotation by Lambda function" (createSecret, setSecret, AWSPENDING).
use Rattle.std.specs.Prelude.{Bool, true, false, not, ◌&&◌, Option, Some, None, is_none, IsTrue, if◌then◌else◌}
use Rattle.sm_model.specs.declared.rows.Job.{Job}
use Rattle.sm_model.specs.declared.rows.Stage.{Stage}
use Rattle.sm_model.specs.declared.rows.Stage.TheVariants.{Create, Set, Test, Finish}
use Rattle.sm_model.specs.declared.rows.SecretRow.{SecretRow}
use Rattle.sm_model.specs.Labels.{aws_current, aws_pending, holder, is_held_by}
use Rattle.sm_versions.specs.Versions.{has_value}
use Rattle.sm_model.specs.Versions.{has_version}

-- the secret is not scheduled for deletion, and the version of the job's token exists, holds AWSPENDING and does not
-- hold AWSCURRENT
abbrev pub is_live : SecretRow → Job → Bool
is_live row job =
    is_none row.deletion && has_version row.versions job.token
    && is_held_by (holder row.labels aws_pending) job.token
    && not (is_held_by (holder row.labels aws_current) job.token)

abbrev pub IsLive : SecretRow → Job → Type 0
IsLive row job = IsTrue (is_live row job)

abbrev pub is_create : Stage → Bool
is_create Create = true
is_create Set = false
is_create Test = false
is_create Finish = false

-- at Create a job whose version has a value goes to Set, attempt 1
abbrev pub advanced_job : SecretRow → Job → Job
advanced_job row job =
    if is_create job.stage && has_value row.versions job.token then record job { stage = Set; attempt = 1 } else job

-- a job that is not live is dropped
abbrev pub settled_job : SecretRow → Option Job → Option Job
settled_job row None = None
settled_job row (Some job) = if is_live row job then Some (advanced_job row job) else None

-- the row with its job settled
abbrev pub settle : SecretRow → SecretRow
settle row = record row { job = settled_job row row.job }
