-- The start of a rotation.
-- AWS Secrets Manager User Guide: "Rotation by Lambda function" (AWSPENDING); API Reference: RotateSecret
-- (ClientRequestToken).
use Rattle.std.specs.Prelude.{ℕ, ◌+◌, Bool, true, false, List, [], ◌∷◌, ◌++◌, Option, Some, None, Result, Ok, Err, if◌then◌else◌}
use Rattle.sm_base.specs.declared.memory.NoMemory.{NoMemory}
use Rattle.sm_base.specs.declared.moment.Moment.{Moment}
use Rattle.sm_base.specs.declared.limits.TheConstants.{VERSIONS_LIMIT}
use Rattle.sm_model.specs.declared.rows.VersionRow.{VersionRow}
use Rattle.sm_model.specs.declared.rows.Job.{Job}
use Rattle.sm_model.specs.declared.rows.Stage.TheVariants.{Create}
use Rattle.sm_model.specs.declared.rows.SecretRow.{SecretRow}
use Rattle.sm_base.specs.Texts.{same_text}
use Rattle.sm_model.specs.Labels.{aws_current, aws_pending, holder}
use Rattle.sm_versions.specs.Labels.{place}
use Rattle.sm_versions.specs.Versions.{version_of}
use Rattle.sm_model.specs.Versions.{When, has_version, is_full_when}
use Rattle.sm_rotation.specs.declared.starting.Began.{Began}
use Rattle.sm_rotation.specs.declared.starting.Began.TheVariants.{Ok as Begun, Same, NoCurrent, Pending, Exists, TooMany, Memory}

-- a version is there, and a rotation made it
abbrev pub is_of_rotation : Option VersionRow → Bool
is_of_rotation None = false
is_of_rotation (Some version) = version.by_rotation

-- the last test: a version may be added
abbrev pub begin_if_room : SecretRow → When → Began
begin_if_room row when = if is_full_when row when then TooMany VERSIONS_LIMIT else Begun

-- the tests on the versions: none has the token
abbrev pub begin_new : SecretRow → List ℕ → When → Began
begin_new row token when = if has_version row.versions token then Exists token else begin_if_room row when

-- the tests by the holders of AWSPENDING and AWSCURRENT: AWSPENDING is on no other version than the current one
abbrev pub begin_held : SecretRow → List ℕ → When → Option (List ℕ) → Option (List ℕ) → Began
begin_held row token when pending None = NoCurrent
begin_held row token when None (Some current) = begin_new row token when
begin_held row token when (Some pending) (Some current) =
    if same_text pending current then begin_new row token when else Pending pending

-- what a start answers where there is memory
abbrev pub begin_answer : SecretRow → List ℕ → When → Began
begin_answer row token when =
    if is_of_rotation (version_of row.versions token) then Same
    else begin_held row token when (holder row.labels aws_pending) (holder row.labels aws_current)

-- the version that a rotation is to fill
abbrev pub pending_version : SecretRow → List ℕ → Moment → VersionRow
pending_version row token moment =
    record {
      id = token;
      serial = row.next_version;
      made = moment;
      value = None;
      rotated = None;
      by_rotation = true;
    }

-- the job at createSecret, attempt 1
abbrev pub first_job : List ℕ → Moment → Job
first_job token moment = record { token = token; stage = Create; attempt = 1; retry_at = moment; tested = None }

-- the row after a start: an empty version under the token, AWSPENDING on it, and a job
abbrev pub begin_row : SecretRow → List ℕ → Moment → SecretRow
begin_row row token moment =
    record row {
      versions = row.versions ++ pending_version row token moment ∷ [];
      next_version = row.next_version + 1;
      labels = place row.labels aws_pending token;
      job = Some (first_job token moment);
    }

abbrev pub is_begun : Began → Bool
is_begun Begun = true
is_begun Same = false
is_begun NoCurrent = false
is_begun (Pending id) = false
is_begun (Exists id) = false
is_begun (TooMany n) = false
is_begun Memory = false

-- a rotation was started
abbrev pub has_begun : Result Began NoMemory → Bool
has_begun (Ok began) = is_begun began
has_begun (Err e) = false

-- what a start answered, or None where it wanted memory
abbrev pub begin_told : Began → Option Began
begin_told Begun = Some Begun
begin_told Same = Some Same
begin_told NoCurrent = Some NoCurrent
begin_told (Pending id) = Some (Pending id)
begin_told (Exists id) = Some (Exists id)
begin_told (TooMany n) = Some (TooMany n)
begin_told Memory = None
