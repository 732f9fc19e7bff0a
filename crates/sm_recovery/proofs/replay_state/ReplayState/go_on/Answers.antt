use Rattle.sm_recovery.proofs.FollowLemmas.{step, stop}
use Rattle.sm_recovery.proofs.replay_state.ReplayState.go_on.Goals as goal

pub returns-in-Err-Illegal-clause-stopped : goal.returns-in-Err-Illegal-clause-stopped
returns-in-Err-Illegal-clause-stopped c =
    stop c.args.self c.args.entries.now c.loop-k.k c.index-entries-k.result c.loop-k-test.true c.index-entries-k.is
    c.loop-k.replayed c.loop-k.invariant (rw c.in-Err-Illegal.field-0-is at c.in-Err-Illegal.ensures.refused)

pub loop-k-preserved : goal.loop-k-preserved
loop-k-preserved c =
    step c.args.self c.args.entries.now c.loop-k.k c.index-entries-k.result c.loop-k-test.true c.index-entries-k.is
    c.loop-k.replayed c.loop-k.invariant c.follow.new.self c.in-Ok.ensures.after c.in-Ok.ensures.legal
