use Rattle.sm_cron.specs.Days.{IsNoneUntil}
use Rattle.sm_cron.proofs.next.next_of.Given as goal

abbrev pub invariant-loop-day : goal.invariant-loop-day
invariant-loop-day l = IsNoneUntil l.cron l.moment l.day
