use Rattle.std.proofs.Common.{not, ◌∙◌, rules}
use Rattle.std.proofs.lemmas.Fn.{filter_same}
use Rattle.sm_versions.specs.Texts.{is_among}
use Rattle.sm_judge_deletion_and_tags.proofs.TagLemmas.{without_tags_is_filter}
use Rattle.sm_judge_deletion_and_tags.proofs.untag_resource.drop_tags.Goals as goal

pub returns : goal.returns
returns c =
    filter_same _ (λ t. not (is_among c.args.keys.now t.key)) _ (λ x b q k. search rules) _ _
    c.retain.ensures.filtered
    ∙ without_tags_is_filter c.args.tags.now.items c.args.keys.now
