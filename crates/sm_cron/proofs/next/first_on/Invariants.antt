use Rattle.sm_cron.specs.Days.{IsNoneBefore}
use Rattle.sm_cron.proofs.next.first_on.Given as goal

abbrev pub invariant-loop-hour : goal.invariant-loop-hour
invariant-loop-hour l = IsNoneBefore l.cron l.day l.moment l.hour
