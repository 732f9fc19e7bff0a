use Rattle.std.proofs.Common.{ap, sym, ◌∙◌}
use Rattle.sm_judge_common.specs.Regions.{with_region}
use Rattle.sm_judge_common.proofs.RegionLemmas.{with_regions_more}
use Rattle.sm_judge_common.proofs.regions.with_regions.Goals as goal

pub loop-region-preserved : goal.loop-region-preserved
loop-region-preserved c =
    c.in_ok-add_region.ensures
    ∙ ap (λ regions. with_region regions c.region-item.result) c.loop-region.invariant
    ∙ sym (with_regions_more c.args.kept.now c.args.given.now c.loop-region.region-index c.region-item.result
    c.loop-region-test.true c.region-item.is)
