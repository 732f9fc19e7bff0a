use Rattle.std.proofs.Common.{◌∙◌, sym, arith}
use Rattle.sm_base.proofs.BlockLemmas.{other_number}
use Rattle.sm_base.proofs.blocks.Blocks.is_at.Goals as goal

pub returns-then-index-sum : goal.returns-then-index-sum
returns-then-index-sum g c =
    rw (← c.self.view_is)
    (sym (other_number (λ item. g.T.Keyed.key item) c.self.inside.shared.items c.self.inside.sums.items c.self.invariant
    c.args.place c.index.result.now c.args.key.now
    (omega (arith, c.if-place-len.false, c.len.ensures, c.self.inside.sums.ok)) c.index.ensures
    (λ same. c.if-index-sum.true (same ∙ sym c.requires))))
