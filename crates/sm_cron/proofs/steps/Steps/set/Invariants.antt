use Rattle.std.proofs.Common.{◌≡◌}
use Rattle.sm_cron.specs.Sets.{is_step, set_of}
use Rattle.sm_cron.proofs.steps.Steps.set.Given as goal

abbrev pub invariant-loop-number : goal.invariant-loop-number
invariant-loop-number l = l.set ≡ set_of (is_step l.self) l.number
