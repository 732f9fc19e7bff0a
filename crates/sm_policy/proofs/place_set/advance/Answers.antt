use Rattle.std.proofs.Common.{arith}
use Rattle.sm_policy.proofs.PlaceSetLemmas.{none_first}
use Rattle.sm_policy.proofs.place_set.advance.Goals as goal

pub returns-clause-first : goal.returns-clause-first
returns-clause-first c =
    none_first c.args.set.now c.loop-index.set
    (λ k under. c.loop-index.invariant.3 k (omega (arith, c.loop-index-test.false)))
    (λ k under. c.loop-index.invariant.0 k (omega (arith, c.loop-index-test.false)))
