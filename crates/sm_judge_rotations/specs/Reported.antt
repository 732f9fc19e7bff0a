-- A reported step of a rotation: when it is legal, and what it changes.
-- AWS Secrets Manager User Guide: "Lambda rotation functions" (createSecret, setSecret, testSecret, finishSecret).
use Rattle.std.specs.Prelude.{ℕ, Bool, false, if◌then◌else◌, List, Option, Some, None, IsTrue, IsSomeAnd}
use Rattle.sm_base.specs.declared.moment.Moment.{Moment}
use Rattle.sm_model.specs.declared.entry.Answer.{Answer}
use Rattle.sm_model.specs.declared.entry.At.{At}
use Rattle.sm_model.specs.declared.entry.Change.{Change}
use Rattle.sm_model.specs.declared.entry.Change.TheVariants.{Replace}
use Rattle.sm_model.specs.declared.rows.Job.{Job}
use Rattle.sm_model.specs.declared.rows.Rows.{Rows}
use Rattle.sm_model.specs.declared.rows.SecretRow.{SecretRow}
use Rattle.sm_model.specs.Versions.{When}
use Rattle.sm_rotation.specs.Step.{is_at, applied_row}
use Rattle.sm_table.specs.Found.{found_arn}
use Rattle.sm_judge_common.specs.Secrets.{finished_row}
use Rattle.sm_judge_rotations.specs.WholeArns.{change_with_arn}

-- there is a job, and it is at the step: it has its token, its stage and its attempt
abbrev pub is_at_step : Option Job → At → Bool
is_at_step None at = false
is_at_step (Some job) at = is_at job at

-- the row with the answer applied to the step of its job
abbrev pub answered : Answer → Moment → SecretRow → SecretRow
answered answer moment row = applied_row row row.job answer moment

abbrev pub reported_on : SecretRow → When → At → Answer → Option Change
reported_on row when at answer =
    if is_at_step row.job at then Some (Replace (finished_row (answered answer when.moment row) when)) else None

-- the change of an answer to the step, where the job is at it
abbrev pub reported_found : Option SecretRow → When → At → Answer → Option Change
reported_found None when at answer = None
reported_found (Some row) when at answer = reported_on row when at answer

abbrev pub reported_change : Rows → When → List ℕ → At → Answer → Option Change
reported_change rows when arn at answer = reported_found (found_arn rows when.moment arn) when at answer

-- An answer to a step is legal where the secret that has exactly this ARN has a job at that step.
abbrev pub MayReport : Rows → Moment → List ℕ → At → Type 0
MayReport rows moment arn at = IsSomeAnd (found_arn rows moment arn) (λ row. IsTrue (is_at_step row.job at))

-- the secret's row with the answer applied, among those that are still there
abbrev pub reported_effect : Rows → When → List ℕ → Answer → Rows
reported_effect rows when arn answer = change_with_arn rows arn when (answered answer when.moment)
