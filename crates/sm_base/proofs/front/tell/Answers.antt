use Rattle.std.proofs.Common.{◌∙◌, ◌++◌, ◌∷◌, [], length, ap, arith}
use Rattle.sm_base.proofs.ChosenLemmas.{length_tell, tell_more}
use Rattle.sm_base.proofs.front.tell.Goals as goal

pub unreachable-requires : goal.unreachable-requires
unreachable-requires c =
    let told = ap length c.loop-at.invariant.0 ∙ length_tell c.args.places.now.items c.args.from c.loop-at.at in
    omega (
      arith,
      told,
      c.in-Err.ensures.full,
      c.loop-at.invariant.1,
      c.loop-at.invariant.2,
      c.loop-at.places.ok,
      c.args.places.now.ok,
      c.requires.room,
      c.requires.order,
      c.loop-at-test.true,
    )

pub loop-at-preserved : goal.loop-at-preserved
loop-at-preserved c = (
  c.in-Ok.ensures.items ∙ ap (λ places. places ++ c.loop-at.at ∷ []) c.loop-at.invariant.0
      ∙ tell_more c.args.places.now.items c.args.from c.loop-at.at c.loop-at.invariant.1,
  omega (arith, c.loop-at.invariant.1),
  omega (arith, c.loop-at.invariant.2, c.in-Ok.ensures.capacity),
)
