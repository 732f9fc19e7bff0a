use Rattle.std.proofs.Common.{◌∙◌, sym, ap, arith}
use Rattle.sm_base.specs.Blocks.{passes}
use Rattle.sm_base.proofs.ChosenLemmas.{one_picked}
use Rattle.sm_base.proofs.front.are_picked.Goals as goal

pub loop-at-preserved : goal.loop-at-preserved
loop-at-preserved g c =
    one_picked (g.P.Picks.picked c.args.picks.now) c.args.head.now c.loop-at.at
    (omega (arith, c.loop-at-test.true, c.len-at-end.ensures.count)) c.loop-at.invariant
    (ap (passes (g.P.Picks.picked c.args.picks.now)) (sym c.get.ensures) ∙ sym c.if-not-is_picked.ensures)
