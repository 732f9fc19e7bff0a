use Rattle.std.proofs.Common.{ap, sym, ◌∙◌}
use Rattle.sm_judge_deletion_and_tags.specs.TagResource.{with_tag}
use Rattle.sm_judge_deletion_and_tags.proofs.TagLemmas.{with_tags_more}
use Rattle.sm_judge_deletion_and_tags.proofs.tag_resource.with_tags.Goals as goal

pub loop-tag-preserved : goal.loop-tag-preserved
loop-tag-preserved c =
    c.in_ok-put_tag.ensures
    ∙ ap (λ tags. with_tag tags c.tag-item.result) c.loop-tag.invariant
    ∙ sym (with_tags_more c.args.kept.now c.args.given.now c.loop-tag.tag-index c.tag-item.result
    c.loop-tag-test.true c.tag-item.is)
