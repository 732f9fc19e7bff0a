-- Reports of what a rotator answered to its work.
-- AWS Secrets Manager User Guide: "Lambda rotation functions".
use Rattle.std.specs.Prelude.{◌≡◌, ⊤, true, false, [], if◌then◌else◌, Option}
use Rattle.sm_base.specs.declared.moment.Moment.{Moment}
use Rattle.sm_model.specs.Bounds.{is_small}
use Rattle.sm_model.specs.declared.entry.Act.TheVariants as acts
use Rattle.sm_model.specs.declared.entry.Answer.{Answer}
use Rattle.sm_model.specs.declared.entry.Answer.TheVariants as answers
use Rattle.sm_model.specs.declared.entry.At.{At}
use Rattle.sm_model.specs.declared.entry.Entry.{Entry}
use Rattle.sm_model.specs.declared.rows.SecretRow.{SecretRow}
use Rattle.sm_claims.specs.Fresh.{is_fresh, step_of}
use Rattle.sm_core.specs.Histories.{later}
use Rattle.sm_rotator.specs.declared.work.Work.{Work}
use Rattle.sm_table.specs.Found.{found_arn}
use Rattle.sm_account.specs.declared.report.Reported.{Reported}
use Rattle.sm_account.specs.declared.report.Reported.TheVariants as reported
use Rattle.sm_account.specs.declared.report.Freshness.{Freshness}
use Rattle.sm_account.specs.declared.report.Freshness.TheVariants.{Fresh, Stale}
use Rattle.sm_account.specs.CallOutcomes.{CallOutcome, Nothing, Made, Failed}
use Rattle.sm_account.specs.Efforts.{Effort, Undue, Over, Due, effort_within}
use Rattle.sm_account.specs.Limits.{passed_at}
use Rattle.sm_account.specs.States.{State}

-- the answer as it is entered: a value of more than 65,536 bytes counts as a failure
abbrev pub entered_answer : Answer → Answer
entered_answer (answers.Value value) = if is_small value then answers.Value value else answers.Failed
entered_answer answers.Yes = answers.Yes
entered_answer answers.No = answers.No
entered_answer answers.Failed = answers.Failed

-- the entry of an answer to the work
abbrev pub reported_entry : Moment → Work → Answer → Entry
reported_entry moment work answer = record {
  moment = moment;
  caller = [];
  by = [];
  drawn = [];
  act = acts.Reported work.arn work.at (entered_answer answer);
  prunes = true;
}

-- whether a verdict on the work holds of the secret that was found
abbrev pub IsHeldAs : Option SecretRow → Work → Freshness → Type 0
IsHeldAs found work Fresh = is_fresh found work ≡ true
IsHeldAs found work (Stale at) = (is_fresh found work ≡ false) × (at ≡ step_of found)

-- the secret with exactly the work's ARN
abbrev pub secret_of : State → Moment → Work → Option SecretRow
secret_of state moment work = found_arn state.rows moment work.arn

-- a verdict on the work that is stale, with the step that the secret's job is at; or its entry
abbrev pub report_of : State → Moment → Work → Answer → Option SecretRow → Effort (Option At)
report_of state moment work answer found =
    let entry = reported_entry moment work answer in
    if is_fresh found work then effort_within (passed_at state entry) entry else Undue (step_of found)

-- what a report comes to at a reading of the clock
abbrev pub report_at : State → Moment → Work → Answer → Effort (Option At)
report_at state now work answer =
    let moment = later state.last now in report_of state moment work answer (secret_of state moment work)

-- The answer is what the report comes to; the disk fails only where an entry is due; memory may be wanted.
abbrev pub ReportsAs : Reported → Effort (Option At) → Type 0
ReportsAs reported.Moved (Due entry) = ⊤
ReportsAs reported.Moved (Undue at) = ⊥
ReportsAs reported.Moved (Over passed) = ⊥
ReportsAs (reported.Stale at) (Undue wanted) = at ≡ wanted
ReportsAs (reported.Stale at) (Due entry) = ⊥
ReportsAs (reported.Stale at) (Over passed) = ⊥
ReportsAs (reported.Limit limit) (Over passed) = limit ≡ passed.limit
ReportsAs (reported.Limit limit) (Undue at) = ⊥
ReportsAs (reported.Limit limit) (Due entry) = ⊥
ReportsAs reported.DiskFault (Due entry) = ⊤
ReportsAs reported.DiskFault (Undue at) = ⊥
ReportsAs reported.DiskFault (Over passed) = ⊥
ReportsAs reported.Memory wanted = ⊤

-- what an answer did with the entry that is due
abbrev pub reported_by : Reported → Effort (Option At) → CallOutcome
reported_by reported.Moved (Due entry) = Made entry
reported_by reported.DiskFault (Due entry) = Failed entry
reported_by answer wanted = Nothing
