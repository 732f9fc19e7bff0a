-- The outcomes of the account's own answers.
use Rattle.std.specs.Prelude.{ℕ, Bool, true, false}
use Rattle.sm_account.specs.declared.handled.Handled.{Handled}
use Rattle.sm_account.specs.declared.handled.Handled.TheVariants as handled
use Rattle.sm_account.specs.declared.report.Reported.{Reported as reports}
use Rattle.sm_account.specs.declared.report.Reported.TheVariants as reported
use Rattle.sm_account.specs.declared.start_due.StartedDue.{StartedDue}
use Rattle.sm_account.specs.declared.start_due.StartedDue.TheVariants as started
use Rattle.sm_drive.specs.Aims.{refused_as}
use Rattle.sm_drive.specs.declared.outcome.Outcome.{Outcome}
use Rattle.sm_drive.specs.declared.outcome.Outcome.TheVariants.{Entered, Quiet, Stale, Limit, DiskFault, Nothing, Memory}

-- a reply with an entry, whose place this is, or without one
abbrev pub answered_as : Bool → ℕ → Outcome
answered_as true place = Entered place
answered_as false place = Quiet

abbrev pub handled_as : Bool → ℕ → Handled → Outcome
handled_as entered place (handled.Answered reply) = answered_as entered place
handled_as entered place (handled.Refused why) = refused_as why
handled_as entered place handled.DiskFault = DiskFault
handled_as entered place handled.Memory = Memory

abbrev pub reported_as : ℕ → reports → Outcome
reported_as place reported.Moved = Entered place
reported_as place (reported.Stale at) = Stale
reported_as place (reported.Limit limit) = Limit
reported_as place reported.DiskFault = DiskFault
reported_as place reported.Memory = Memory

abbrev pub started_as : ℕ → StartedDue → Outcome
started_as place (started.Started arn) = Entered place
started_as place started.None = Nothing
started_as place (started.Limit limit) = Limit
started_as place started.DiskFault = DiskFault
started_as place started.Memory = Memory
