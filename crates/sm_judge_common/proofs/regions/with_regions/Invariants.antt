use Rattle.std.proofs.Common.{◌≡◌, take}
use Rattle.sm_judge_common.specs.Regions.{with_regions}
use Rattle.sm_judge_common.proofs.regions.with_regions.Given as goal

-- the regions so far are those of the secret with the given ones so far
abbrev pub invariant-loop-region : goal.invariant-loop-region
invariant-loop-region l = l.regions.items ≡ with_regions l.kept (take l.region-index l.given)
