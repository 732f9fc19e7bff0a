use Rattle.std.proofs.Common.{◌≡◌, take}
use Rattle.sm_judge_common.specs.Regions.{region_statuses}
use Rattle.sm_judge_common.proofs.regions.region_statuses.Given as goal

abbrev pub invariant-loop-region : goal.invariant-loop-region
invariant-loop-region l = l.statuses.items ≡ region_statuses (take l.region-index l.regions)
