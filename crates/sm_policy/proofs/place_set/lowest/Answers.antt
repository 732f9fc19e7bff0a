use Rattle.std.proofs.Common.{refl, arith}
use Rattle.sm_policy.proofs.PlaceSetLemmas.{lowest_here}
use Rattle.sm_policy.proofs.place_set.lowest.Goals as goal

pub returns-then-word-ne0 : goal.returns-then-word-ne0
returns-then-word-ne0 c =
    lowest_here c.args.set.now c.loop-index.index _ c.lowest_one.result (omega (arith, c.loop-index-test.true))
    c.loop-index.invariant refl c.lowest_one.ensures
