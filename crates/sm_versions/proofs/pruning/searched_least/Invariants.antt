use Rattle.std.proofs.Common.{◌≡◌, ◌-◌, ◌≤◌, nat_lt, true}
use Rattle.sm_base.specs.declared.limits.TheConstants.{NEWEST_KEPT}
use Rattle.sm_model.specs.Versions.{newer_than}
use Rattle.sm_versions.proofs.PruneLemmas.{NoneBelow}
use Rattle.sm_versions.proofs.pruning.searched_least.Given as goal

abbrev pub invariant-loop-low : goal.invariant-loop-low
invariant-loop-low l =
    NoneBelow l.versions l.low × (nat_lt (newer_than l.versions l.high) NEWEST_KEPT ≡ true) × (l.low ≤ l.high)

abbrev pub decreases-loop-low : goal.decreases-loop-low
decreases-loop-low l = l.high - l.low
