-- The steps of a rotation.
-- AWS Secrets Manager User Guide: "Lambda rotation functions" (createSecret, setSecret, testSecret, finishSecret) and
-- "Rotation schedules"; API Reference: DescribeSecret (LastRotatedDate, NextRotationDate).
use Rattle.std.specs.Prelude.{ℕ, ◌+◌, ◌*◌, Bool, true, false, ◌&&◌, nat_eq, nat_lt, List, [], ◌∷◌, Option, Some, None, Result, Ok, Err, if◌then◌else◌}
use Rattle.sm_base.specs.declared.memory.NoMemory.{NoMemory}
use Rattle.sm_base.specs.declared.moment.Moment.{Moment}
use Rattle.sm_base.specs.declared.limits.TheConstants.{ATTEMPTS_LIMIT}
use Rattle.sm_model.specs.Bounds.{is_small}
use Rattle.sm_model.specs.declared.value.Value.{Value}
use Rattle.sm_model.specs.declared.entry.At.{At}
use Rattle.sm_model.specs.declared.entry.Answer.{Answer}
use Rattle.sm_model.specs.declared.entry.Answer.TheVariants.{Value as Made, Yes, No, Failed}
use Rattle.sm_model.specs.declared.rows.Pair.{Pair}
use Rattle.sm_model.specs.declared.rows.VersionRow.{VersionRow}
use Rattle.sm_model.specs.declared.rows.Job.{Job}
use Rattle.sm_model.specs.declared.rows.Stage.{Stage}
use Rattle.sm_model.specs.declared.rows.Stage.TheVariants.{Create, Set, Test, Finish}
use Rattle.sm_model.specs.declared.rows.SecretRow.{SecretRow}
use Rattle.sm_dates.specs.Days.{rotation_after}
use Rattle.sm_base.specs.Texts.{same_text}
use Rattle.sm_model.specs.Labels.{aws_current, aws_pending}
use Rattle.sm_versions.specs.Labels.{place, without}
use Rattle.sm_versions.specs.Versions.{filled}
use Rattle.sm_versions.specs.Kept.{is_finish}
use Rattle.sm_versions.specs.Settle.{is_create, settle}
use Rattle.sm_rotation.specs.declared.stepping.Applied.{Applied}
use Rattle.sm_rotation.specs.declared.stepping.Applied.TheVariants.{Done, Stale, Memory}

abbrev pub is_set : Stage → Bool
is_set Create = false
is_set Set = true
is_set Test = false
is_set Finish = false

abbrev pub is_test : Stage → Bool
is_test Create = false
is_test Set = false
is_test Test = true
is_test Finish = false

abbrev pub same_stage : Stage → Stage → Bool
same_stage Create stage = is_create stage
same_stage Set stage = is_set stage
same_stage Test stage = is_test stage
same_stage Finish stage = is_finish stage

-- the step that the job is at
abbrev pub at_of : Job → At
at_of job = record { token = job.token; stage = job.stage; attempt = job.attempt }

-- the job is at this step
abbrev pub is_at : Job → At → Bool
is_at job at = same_text job.token at.token && same_stage job.stage at.stage && nat_eq job.attempt at.attempt

abbrev pub is_yes : Answer → Bool
is_yes (Made value) = false
is_yes Yes = true
is_yes No = false
is_yes Failed = false

-- the value that createSecret made, where a version may have it
abbrev pub made_value : Answer → Option Value
made_value (Made value) = if is_small value then Some value else None
made_value Yes = None
made_value No = None
made_value Failed = None

-- the job at the first attempt of a stage, which may be made at once
abbrev pub onward : Job → Stage → Moment → Job
onward job stage moment = record job { stage = stage; attempt = 1; retry_at = moment }

-- the job at the next attempt of its stage, a minute later for each attempt made; after the last attempt it ends
abbrev pub retried : Job → Moment → Option Job
retried job moment =
    if nat_lt job.attempt ATTEMPTS_LIMIT
    then Some (record job { attempt = job.attempt + 1; retry_at = record { 0 = moment.0 + 60 * job.attempt } })
    else None

-- createSecret: the version gets the value that was made
abbrev pub after_create : SecretRow → Job → Moment → Option Value → SecretRow
after_create row job moment None = record row { job = retried job moment }
after_create row job moment (Some value) =
    record row { versions = filled row.versions job.token value; job = Some (onward job Set moment) }

-- setSecret: a yes leads on to testSecret
abbrev pub after_set : Job → Moment → Answer → Option Job
after_set job moment answer = if is_yes answer then Some (onward job Test moment) else retried job moment

-- testSecret: a yes leads on to finishSecret, and the attempt is remembered
abbrev pub after_test : Job → Moment → Answer → Option Job
after_test job moment answer =
    if is_yes answer then Some (record (onward job Finish moment) { tested = Some job.attempt }) else retried job moment

-- the first version with the id, with the attempt at which it was tested
abbrev pub marked : List VersionRow → List ℕ → Option ℕ → List VersionRow
marked [] id tested = []
marked (v ∷ vs) id tested =
    if same_text v.id id then record v { rotated = tested } ∷ vs else v ∷ marked vs id tested

-- AWSCURRENT on the version, and AWSPENDING on none
abbrev pub finished_labels : List Pair → List ℕ → List Pair
finished_labels pairs id = without (place pairs aws_current id) aws_pending

-- the end of a rotation: AWSCURRENT is on the job's version and AWSPENDING on none, the version remembers at which
-- attempt it was tested, the last date is the moment, the next date is by the kept schedule or days, and there is no
-- job
abbrev pub finished : SecretRow → Job → Moment → SecretRow
finished row job moment =
    record row {
      versions = marked row.versions job.token job.tested;
      labels = finished_labels row.labels job.token;
      rotation = record row.rotation { next = rotation_after row.rotation moment; last = Some moment };
      job = None;
    }

-- finishSecret: a yes ends the rotation
abbrev pub after_finish : SecretRow → Job → Moment → Answer → SecretRow
after_finish row job moment answer =
    if is_yes answer then finished row job moment else record row { job = retried job moment }

-- what an answer does at a stage
abbrev pub step_at : SecretRow → Job → Moment → Answer → Stage → SecretRow
step_at row job moment answer Create = after_create row job moment (made_value answer)
step_at row job moment answer Set = record row { job = after_set job moment answer }
step_at row job moment answer Test = record row { job = after_test job moment answer }
step_at row job moment answer Finish = after_finish row job moment answer

-- what an answer to the job's step does
abbrev pub step : SecretRow → Job → Answer → Moment → SecretRow
step row job answer moment = step_at row job moment answer job.stage

-- Done where the job is at the step that was answered; else Stale, with the step that it is at
abbrev pub apply_answer : Option Job → At → Applied
apply_answer None at = Stale None
apply_answer (Some job) at = if is_at job at then Done else Stale (Some (at_of job))

-- the row after an answer to the step of its job, settled
abbrev pub applied_row : SecretRow → Option Job → Answer → Moment → SecretRow
applied_row row None answer moment = row
applied_row row (Some job) answer moment = settle (step row job answer moment)

abbrev pub is_done : Applied → Bool
is_done Done = true
is_done (Stale at) = false
is_done Memory = false

-- the answer was applied
abbrev pub has_applied : Result Applied NoMemory → Bool
has_applied (Ok applied) = is_done applied
has_applied (Err e) = false

-- what was answered, or None where memory ran out
abbrev pub apply_told : Applied → Option Applied
apply_told Done = Some Done
apply_told (Stale at) = Some (Stale at)
apply_told Memory = None
