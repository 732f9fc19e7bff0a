-- What an account does for a rotation, at its history.
use Rattle.std.proofs.Common.{◌≡◌, ℕ, Bool, true, false, List, Option, Some, None, IfSome, refl, sym, subst}
use Rattle.std.proofs.Math.Logic.{∥∥₁_map}
use Rattle.std.specs.Prelude.{if◌then◌else◌}
use Rattle.sm_base.specs.declared.moment.Moment.{Moment}
use Rattle.sm_disk.specs.declared.disk.Disk.{Ghosts}
use Rattle.sm_model.specs.Bounds.{is_small}
use Rattle.sm_model.specs.declared.entry.Answer.{Answer}
use Rattle.sm_model.specs.declared.entry.Answer.TheVariants as answers
use Rattle.sm_model.specs.declared.entry.At.{At}
use Rattle.sm_model.specs.declared.entry.Entry.{Entry}
use Rattle.sm_model.specs.declared.rows.Job.{Job}
use Rattle.sm_model.specs.declared.rows.Rows.{Rows}
use Rattle.sm_model.specs.declared.rows.SecretRow.{SecretRow}
use Rattle.sm_claims.specs.Fresh.{is_fresh, step_of}
use Rattle.sm_claims.specs.Ready.{first_ready}
use Rattle.sm_claims.proofs.FreshLemmas.{fresh_accepts}
use Rattle.sm_core.specs.Histories.{later}
use Rattle.sm_rotation.specs.Vouched.{AcceptsOnly, Replies}
use Rattle.sm_rotator.specs.declared.work.Work.{Work}
use Rattle.sm_table.specs.Found.{found_arn}
use Rattle.sm_table.proofs.FoundLaws.{found_arn_is_exact}
use Rattle.sm_account.specs.declared.account_state.AccountState.{AccountState}
use Rattle.sm_account.specs.declared.entering.Passed.{Passed}
use Rattle.sm_account.specs.declared.next_work.NextWork.{NextWork}
use Rattle.sm_account.specs.declared.next_work.NextWork.TheVariants as works
use Rattle.sm_account.specs.declared.report.Reported.{Reported}
use Rattle.sm_account.specs.declared.report.Reported.TheVariants as reports
use Rattle.sm_account.specs.declared.start_due.StartedDue.{StartedDue}
use Rattle.sm_account.specs.declared.start_due.StartedDue.TheVariants as starts
use Rattle.sm_account.specs.Allowed.{CallOutcomeAllowed, EntriesAllowed, IsAllowedAt}
use Rattle.sm_account.specs.AccountState.{Kept, base_in, history_in, state_in}
use Rattle.sm_account.specs.Claims.{ready_at}
use Rattle.sm_account.specs.CallOutcomes.{CallOutcome, Leaves}
use Rattle.sm_account.specs.Efforts.{Effort, Undue, Over, Due, effort_within}
use Rattle.sm_account.specs.Limits.{passed_at}
use Rattle.sm_account.specs.Report.{ReportsAs, entered_answer, report_at, report_of, reported_by, reported_entry}
use Rattle.sm_account.specs.StartDue.{StartsAs, begun_entry, start_at, start_of, started_by}
use Rattle.sm_account.specs.NextWork.{NextAs, next_by}
use Rattle.sm_account.specs.States.{State, state_at}
use Rattle.sm_account.proofs.AllowedLemmas.{allowed_after}

pub call_outcome_kept : {D : Type 0} {G : Ghosts D} (replies : Replies) (old new : AccountState D G) (seat : ℕ)
    (call_outcome : CallOutcome)
    → Kept G old → Leaves G old new seat call_outcome → CallOutcomeAllowed replies old.table call_outcome
    → ∥ EntriesAllowed replies old ∥₁ → ∥ EntriesAllowed replies new ∥₁
call_outcome_kept replies old new seat call_outcome kept leaves is allowed =
    ∥∥₁_map allowed (λ a. allowed_after replies old new seat kept a call_outcome leaves is)

module _ (replies : Replies) (rows : Rows) where
  -- the entry that is due, if there is one, is allowed
  abbrev IfDue : {A : Type 0} → Effort A → Type 0
  IfDue (Undue none) = Unit {0}
  IfDue (Over passed) = Unit {0}
  IfDue (Due entry) = IsAllowedAt replies rows entry

  within_due : (A : Type 0) (passed : Option Passed) (entry : Entry) → IsAllowedAt replies rows entry
      → IfDue (effort_within {A = A} passed entry)
  within_due A None entry is = is
  within_due A (Some passed) entry is = tt

  -- a claim makes no entry
  pub next_allowed : (result : NextWork) (moment : Moment) → CallOutcomeAllowed replies rows (next_by result moment)
  next_allowed (works.Work work) moment = tt
  next_allowed works.None moment = tt
  next_allowed works.Memory moment = tt

  -- a start is always allowed
  start_call_outcome : (result : StartedDue) (wanted : Effort (Unit {0})) → IfDue wanted
      → CallOutcomeAllowed replies rows (started_by result wanted)
  start_call_outcome (starts.Started arn) (Due entry) is = is
  start_call_outcome (starts.Started arn) (Undue none) is = tt
  start_call_outcome (starts.Started arn) (Over passed) is = tt
  start_call_outcome starts.None wanted is = tt
  start_call_outcome (starts.Limit limit) wanted is = tt
  start_call_outcome starts.DiskFault (Due entry) is = is
  start_call_outcome starts.DiskFault (Undue none) is = tt
  start_call_outcome starts.DiskFault (Over passed) is = tt
  start_call_outcome starts.Memory wanted is = tt

  start_due_is : (state : State) (moment : Moment) (drawn : List ℕ) (found : Option SecretRow)
      → IfDue (start_of state moment drawn found)
  start_due_is state moment drawn None = tt
  start_due_is state moment drawn (Some row) =
      within_due (Unit {0}) (passed_at state (begun_entry moment drawn row.arn)) (begun_entry moment drawn row.arn) tt

  pub start_allowed : (result : StartedDue) (state : State) (moment : Moment) (drawn : List ℕ)
      (found : Option SecretRow) → CallOutcomeAllowed replies rows
      (started_by result (start_of state moment drawn found))
  start_allowed result state moment drawn found =
      start_call_outcome result (start_of state moment drawn found) (start_due_is state moment drawn found)

  -- an answer to a step
  report_call_outcome : (result : Reported) (wanted : Effort (Option At)) → IfDue wanted
      → CallOutcomeAllowed replies rows (reported_by result wanted)
  report_call_outcome reports.Moved (Due entry) is = is
  report_call_outcome reports.Moved (Undue at) is = tt
  report_call_outcome reports.Moved (Over passed) is = tt
  report_call_outcome (reports.Stale at) wanted is = tt
  report_call_outcome (reports.Limit limit) wanted is = tt
  report_call_outcome reports.DiskFault (Due entry) is = is
  report_call_outcome reports.DiskFault (Undue at) is = tt
  report_call_outcome reports.DiskFault (Over passed) is = tt
  report_call_outcome reports.Memory wanted is = tt

  -- only a yes is entered as yes
  yes_so : (answer : Answer) → entered_answer answer ≡ answers.Yes → answer ≡ answers.Yes
  yes_so (answers.Value value) same = by (is_small value) same
    where
      by : (b : Bool) → (if b then answers.Value value else answers.Failed) ≡ answers.Yes
          → answers.Value value ≡ answers.Yes
      by true e = absurd (cc)
      by false e = absurd (cc)
  yes_so answers.Yes e = refl
  yes_so answers.No e = absurd (cc)
  yes_so answers.Failed e = absurd (cc)

  entered_accepts : (row : SecretRow) (job : Option Job) (answer : Answer)
      → IfSome job (AcceptsOnly replies row answer) → IfSome job (AcceptsOnly replies row (entered_answer answer))
  entered_accepts row None answer is = tt
  entered_accepts row (Some job) answer is = λ stage e. is stage (yes_so answer e)

  report_due_is : (state : State) (moment : Moment) (work : Work) (answer : Answer)
      → replies work.arn work.at work.current work.pending answer ≡ true
      → IfDue (report_of state moment work answer (found_arn rows moment work.arn))
  report_due_is state moment work answer allowed =
      by (is_fresh (found_arn rows moment work.arn) work) refl
    where
      accepts : (found : Option SecretRow) → found ≡ found_arn rows moment work.arn → is_fresh found work ≡ true
          → IfSome found (λ row. IfSome row.job (AcceptsOnly replies row (entered_answer answer)))
      accepts None is fresh = tt
      accepts (Some row) is fresh =
          entered_accepts row row.job answer
          (fresh_accepts replies row work answer fresh (found_arn_is_exact rows moment work.arn (Some row) is) allowed)

      by : (b : Bool) → b ≡ is_fresh (found_arn rows moment work.arn) work
          → IfDue (if b then effort_within (passed_at state (reported_entry moment work answer))
          (reported_entry moment work answer) else Undue (step_of (found_arn rows moment work.arn)))
      by true is =
          within_due (Option At) (passed_at state (reported_entry moment work answer))
          (reported_entry moment work answer) (accepts (found_arn rows moment work.arn) refl (sym is))
      by false is = tt

  pub report_allowed : (result : Reported) (state : State) (moment : Moment) (work : Work) (answer : Answer)
      → replies work.arn work.at work.current work.pending answer ≡ true
      → CallOutcomeAllowed replies rows
      (reported_by result (report_of state moment work answer (found_arn rows moment work.arn)))
  report_allowed result state moment work answer allowed =
      report_call_outcome result (report_of state moment work answer (found_arn rows moment work.arn))
      (report_due_is state moment work answer allowed)

-- the calls, told of the history
module _ {D : Type 0} {G : Ghosts D} (old new : AccountState D G) (seat : ℕ) (now : Moment) (kept : Kept G old) where
  module _ (result : NextWork) where
    pub next_told : NextAs result (first_ready (history_in old) (later old.last now) old.table.secrets)
        → NextAs result (ready_at (base_in old) (history_in old)
        (later (state_at (base_in old) (history_in old)).last now))
    next_told next =
        subst (λ (s : State). NextAs result (first_ready (history_in old) (later s.last now) s.rows.secrets)) kept.state
        next

    pub claimed_told : Leaves G old new seat (next_by result (later old.last now))
        → Leaves G old new seat (next_by result (later (state_at (base_in old) (history_in old)).last now))
    claimed_told leaves =
        subst (λ (s : State). Leaves G old new seat (next_by result (later s.last now))) kept.state leaves

  module _ (result : StartedDue) (drawn : List ℕ) where
    pub starts_told : StartsAs result (start_at (state_in old) now drawn)
        → StartsAs result (start_at (state_at (base_in old) (history_in old)) now drawn)
    starts_told starts = subst (λ s. StartsAs result (start_at s now drawn)) kept.state starts

    pub started_told : Leaves G old new seat (started_by result (start_at (state_in old) now drawn))
        → Leaves G old new seat (started_by result (start_at (state_at (base_in old) (history_in old)) now drawn))
    started_told leaves =
        subst (λ s. Leaves G old new seat (started_by result (start_at s now drawn))) kept.state leaves

  module _ (result : Reported) (work : Work) (answer : Answer) where
    pub reports_told : ReportsAs result (report_at (state_in old) now work answer)
        → ReportsAs result (report_at (state_at (base_in old) (history_in old)) now work answer)
    reports_told reports = subst (λ s. ReportsAs result (report_at s now work answer)) kept.state reports

    pub reported_told : Leaves G old new seat (reported_by result (report_at (state_in old) now work answer))
        → Leaves G old new seat
        (reported_by result (report_at (state_at (base_in old) (history_in old)) now work answer))
    reported_told leaves =
        subst (λ s. Leaves G old new seat (reported_by result (report_at s now work answer))) kept.state leaves
