use Rattle.std.proofs.Common.{arith}
use Rattle.std.proofs.lemmas.Bool.Decides.{nat_tests}
use Rattle.sm_versions.proofs.PruneLemmas.{least_met}
use Rattle.sm_versions.proofs.pruning.searched_least.Goals as goal

pub returns : goal.returns
returns c =
    let inv = c.loop-low.invariant in
    least_met c.args.versions.now c.loop-low.low c.loop-low.high inv.0 inv.1 inv.2
    (grind (arith, nat_tests, c.loop-low-test.false))
