-- How what a rotation turn does last ends the turn.
use Rattle.sm_rotator.specs.declared.work.Work.{Work}
use Rattle.sm_account.specs.declared.report.Reported.{Reported}
use Rattle.sm_account.specs.declared.report.Reported.TheVariants as reports
use Rattle.sm_account.specs.declared.start_due.StartedDue.{StartedDue}
use Rattle.sm_account.specs.declared.start_due.StartedDue.TheVariants as starts
use Rattle.sm_pool.specs.declared.done.Done.{Done}
use Rattle.sm_pool.specs.declared.done.Done.TheVariants as ends
use Rattle.sm_pool.specs.declared.done.Trouble.TheVariants as troubles

-- the report of an answer to the work
abbrev pub report_ends : Work → Reported → Done
report_ends work reports.Moved = ends.Did work.arn work.at
report_ends work (reports.Stale at) = ends.Stale at
report_ends work (reports.Limit limit) = ends.Trouble (troubles.Limit limit)
report_ends work reports.DiskFault = ends.Trouble troubles.Disk
report_ends work reports.Memory = ends.Trouble troubles.Memory

-- the start of a due rotation
abbrev pub due_ends : StartedDue → Done
due_ends (starts.Started arn) = ends.Started arn
due_ends starts.None = ends.Idle
due_ends (starts.Limit limit) = ends.Trouble (troubles.Limit limit)
due_ends starts.DiskFault = ends.Trouble troubles.Disk
due_ends starts.Memory = ends.Trouble troubles.Memory
