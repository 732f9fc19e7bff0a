-- Verdicts that still hold when they are reported, and those that are stale.
-- AWS Secrets Manager User Guide: "Lambda rotation functions".
use Rattle.std.specs.Prelude.{ℕ, Bool, true, false, ◌&&◌, nat_eq, Option, Some, None, option_map}
use Rattle.sm_model.specs.declared.entry.At.{At}
use Rattle.sm_model.specs.declared.rows.Job.{Job}
use Rattle.sm_model.specs.declared.rows.SecretRow.{SecretRow}
use Rattle.sm_model.specs.declared.rows.VersionRow.{VersionRow}
use Rattle.sm_model.specs.declared.value.Value.{Value}
use Rattle.sm_versions.specs.Versions.{same_value, version_of}
use Rattle.sm_rotation.specs.Step.{at_of, is_at}
use Rattle.sm_rotator.specs.declared.work.Work.{Work}

-- neither value is there, or both are, and they are the same
abbrev pub same_values : Option Value → Option Value → Bool
same_values None None = true
same_values None (Some b) = false
same_values (Some a) None = false
same_values (Some a) (Some b) = same_value a b

-- it is the version that the work is about, with the value that the work has
abbrev pub is_version_of : Option VersionRow → Work → Bool
is_version_of None work = false
is_version_of (Some version) work = nat_eq version.serial work.version && same_values version.value work.pending

-- the job is at the work's step, and its version is the one that the work is about, with the value that the work has
abbrev pub is_job_of : SecretRow → Option Job → Work → Bool
is_job_of row None work = false
is_job_of row (Some job) work = is_at job work.at && is_version_of (version_of row.versions job.token) work

-- A verdict on the work holds: the secret is there and is the one that the work is about, its job is at the work's
-- step, and the job's version is the work's and has the work's value. Serials tell a secret and a version from earlier
-- ones of the same names.
abbrev pub is_fresh : Option SecretRow → Work → Bool
is_fresh None work = false
is_fresh (Some row) work = nat_eq row.serial work.secret && is_job_of row row.job work

-- the step that the secret's job is at, where there is a secret with a job
abbrev pub step_of : Option SecretRow → Option At
step_of None = None
step_of (Some row) = option_map at_of row.job
