use Rattle.std.proofs.Common.{◌<◌, length, sym, subst}
use Rattle.sm_base.specs.Sums.{sum_of}
use Rattle.sm_base.proofs.BlockLemmas.{blocks_set}
use Rattle.sm_base.proofs.blocks.Blocks.with.Goals as goal

pub invariant_of-result : goal.invariant_of-result
invariant_of-result g c =
    rw c.in_ok-block.ensures
    (rw c.sum.ensures
    (blocks_set (λ item. sum_of (g.T.Keyed.key item)) c.self.inside.shared.items c.self.inside.sums.items
    c.self.invariant c.index.result.now c.args.place c.args.entry
    (subst (λ items. c.args.place < length items) (sym c.self.view_is) c.requires) c.index.ensures))
