use Rattle.sm_lock.specs.Handles.{IsIn}
use Rattle.sm_lock_tests.proofs.rounds.hold.Given as goal

abbrev pub invariant-loop-round : goal.invariant-loop-round
invariant-loop-round g l = IsIn l.gate l.pass
