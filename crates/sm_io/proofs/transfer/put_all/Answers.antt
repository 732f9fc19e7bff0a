use Rattle.std.proofs.Common.{arith}
use Rattle.sm_io.proofs.Known.{append_known-piece}
use Rattle.sm_io.proofs.transfer.put_all.Goals as goal

pub loop-at-preserved : goal.loop-at-preserved
loop-at-preserved g c =
    let before = c.loop-at.invariant in
    let step = c.in-Put.ensures in (
      omega (arith, step.within),
      append_known-piece _ _ _ c.args.piece.now c.loop-at.at c.in-Put.count before.1
          step.bytes,
      cc (step.no_other, before.2),
      cc (step.beside, before.3),
    )
