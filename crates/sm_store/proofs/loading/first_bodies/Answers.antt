use Rattle.std.proofs.Common.{◌∙◌, arith}
use Rattle.sm_store.proofs.LoadRuns.{one_more}
use Rattle.sm_store.proofs.loading.first_bodies.Goals as goal

pub loop-index-preserved : goal.loop-index-preserved
loop-index-preserved c =
    one_more c.args.bodies.now c.loop-index.front.items _ c.loop-index.index c.new.result
    (omega (arith, c.loop-index-test.true, c.requires)) (c.new.ensures ∙ c.body.ensures) c.loop-index.invariant
    c.in_ok-push.ensures.items
