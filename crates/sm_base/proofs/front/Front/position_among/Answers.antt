use Rattle.std.proofs.Common.{◌∙◌, nat_eq, sym}
use Rattle.std.specs.Cmp.Lexicographic.{pointwise}
use Rattle.sm_base.proofs.PlaceLemmas.{passed_at}
use Rattle.sm_base.proofs.front.Front.position_among.Goals as goal

pub returns-then-is_at : goal.returns-then-is_at
returns-then-is_at g c =
    sym (passed_at (λ item. pointwise nat_eq (g.T.Keyed.key item) c.args.key.now) c.args.self.now c.loop-place.place
    c.loop-place.invariant (sym c.is_at.ensures ∙ c.if-is_at.true))
