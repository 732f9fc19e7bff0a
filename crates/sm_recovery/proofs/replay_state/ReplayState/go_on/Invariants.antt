use Rattle.sm_recovery.proofs.FollowLemmas.{GoesTo}
use Rattle.sm_recovery.proofs.replay_state.ReplayState.go_on.Given as goal

abbrev pub invariant-loop-k : goal.invariant-loop-k
invariant-loop-k l = GoesTo l.fn.self l.entries l.k l.replayed
