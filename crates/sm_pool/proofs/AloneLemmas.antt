-- A turn of an account that nobody else holds.
use Rattle.std.proofs.Common.{ℕ, ◌≤◌, Option, None, ap, subst, inl, inr, arith}
use Rattle.std.specs.Prelude.{◌⊎◌}
use Rattle.sm_base.specs.Faults.{Rose}
use Rattle.sm_base.proofs.FaultCounts.{rose_within}
use Rattle.sm_model.specs.declared.entry.At.{At}
use Rattle.sm_rotation.specs.Vouched.{Replies}
use Rattle.sm_rotator.specs.declared.work.Work.{Work}
use Rattle.sm_account.specs.declared.report.Reported.{Reported}
use Rattle.sm_account.specs.declared.report.Reported.TheVariants as reports
use Rattle.sm_account.specs.declared.start_due.StartedDue.{StartedDue}
use Rattle.sm_account.specs.declared.start_due.StartedDue.TheVariants as starts
use Rattle.sm_account.specs.CallOutcomes.{IfFailed}
use Rattle.sm_account.specs.Efforts.{Due, Effort, Over, Undue}
use Rattle.sm_account.specs.Report.{ReportsAs, reported_by}
use Rattle.sm_account.specs.StartDue.{StartsAs, started_by}
use Rattle.sm_account.specs.States.{Base}
use Rattle.sm_account.specs.History.{entries_in}
use Rattle.sm_account.specs.SeatTraces.{History, SeatTrace, NoGap}
use Rattle.sm_pool.specs.declared.done.Done.{Done}
use Rattle.sm_pool.specs.Alone.{IsStale, OnDisk}
use Rattle.sm_pool.specs.Ends.{due_ends, report_ends}
use Rattle.sm_pool.specs.Holds.{hold_shape}
use Rattle.sm_pool.specs.Turns.{Asked, Begins, Course, LateApart, Passing, Rests, Starts, TurnDone, Unasked, Undrawn, Wants, Works, done_of, holds_of}

-- a disk that failed is the cause of trouble with it
module _ (P : Type 0) where
  pub report_on_disk : (work : Work) (reported : Reported) (wanted : Effort (Option At)) → ReportsAs reported wanted
      → IfFailed (reported_by reported wanted) P → OnDisk (report_ends work reported) P
  report_on_disk work reports.Moved wanted is fault = tt
  report_on_disk work (reports.Stale at) wanted is fault = tt
  report_on_disk work (reports.Limit limit) wanted is fault = tt
  report_on_disk work reports.DiskFault (Due entry) is fault = fault
  report_on_disk work reports.DiskFault (Undue at) is fault = absurd is
  report_on_disk work reports.DiskFault (Over passed) is fault = absurd is
  report_on_disk work reports.Memory wanted is fault = tt

  pub start_on_disk : (started : StartedDue) (wanted : Effort (Unit {0})) → StartsAs started wanted
      → IfFailed (started_by started wanted) P → OnDisk (due_ends started) P
  start_on_disk (starts.Started arn) wanted is fault = tt
  start_on_disk starts.None wanted is fault = tt
  start_on_disk (starts.Limit limit) wanted is fault = tt
  start_on_disk starts.DiskFault (Due entry) is fault = fault
  start_on_disk starts.DiskFault (Undue none) is fault = absurd is
  start_on_disk starts.DiskFault (Over passed) is fault = absurd is
  start_on_disk starts.Memory wanted is fault = tt

-- one thing after the other
module _ (first mid last : ℕ) (earlier : first ≤ mid) (on : mid ≤ last) where
  pub rose_behind : Rose mid last → Rose first last
  rose_behind rose = rose_within first mid last last earlier rose (omega arith)

  pub unsure_behind : (Old Mid : Type 0) → (Mid → Old) → Mid ⊎ Rose mid last → Old ⊎ Rose first last
  unsure_behind Old Mid before is = elim is [ inl h ↦ inl (before h) | inr rose ↦ inr (rose_behind rose) ]

-- no verdict comes too late
report_stale : (work : Work) (reported : Reported) → IsStale (report_ends work reported)
    → Rattle.sm_pool.specs.Turns.IsLate reported
report_stale work reports.Moved is = absurd is
report_stale work (reports.Stale at) is = tt
report_stale work (reports.Limit limit) is = absurd is
report_stale work reports.DiskFault is = absurd is
report_stale work reports.Memory is = absurd is

start_stale : (started : StartedDue) → IsStale (due_ends started) → ⊥
start_stale (starts.Started arn) is = is
start_stale starts.None is = is
start_stale (starts.Limit limit) is = is
start_stale starts.DiskFault is = is
start_stale starts.Memory is = is

module _ (seat : ℕ) (from to : History) where
  course_stale : (course : Course) → LateApart seat course
      → SeatTrace hold_shape NoGap seat (λ hold. Unit {0}) from (holds_of course) to → IsStale (done_of course) → ⊥
  course_stale (Wants hold) late seat_trace is = is
  course_stale (Rests hold) late seat_trace is = is
  course_stale (Starts hold (Undrawn trouble)) late seat_trace is = is
  course_stale (Starts hold (Begins drawn next started)) late seat_trace is = start_stale started is
  course_stale (Works hold work Unasked) late seat_trace is = is
  course_stale (Works hold work (Asked answer next reported)) late seat_trace is =
      late (report_stale work reported is) (ap entries_in seat_trace.2.0)

  pub never_stale : (replies : Replies) (base : Base) (passing : Passing) (done : Done)
      → TurnDone replies base NoGap seat passing from to done → IsStale done → ⊥
  never_stale replies base passing done turn is =
      course_stale turn.course turn.late turn.seat_trace (subst IsStale turn.takes.done_is is)
