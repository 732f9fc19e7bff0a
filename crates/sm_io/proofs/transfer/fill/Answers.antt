use Rattle.std.proofs.Common.{arith}
use Rattle.sm_io.proofs.Known.{prepend_known-piece}
use Rattle.sm_io.proofs.transfer.fill.Goals as goal

pub loop-at-preserved : goal.loop-at-preserved
loop-at-preserved g c =
    let before = c.loop-at.invariant in
    let step = c.in-Ok.ensures in (
      omega (arith, step.within),
      step.there,
      prepend_known-piece _ _ _ c.loop-at.vec.items c.take_at.new.vec.items c.loop-at.at c.in-Ok.count before.2
          step.front step.bytes,
      cc (step.no_other, before.3),
      cc (step.beside, before.4),
    )
