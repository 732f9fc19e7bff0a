use Rattle.std.proofs.Common.{[], ◌∷◌, ◌++◌, set, ap, ◌∙◌}
use Rattle.sm_model.specs.declared.value.Tag.{Tag}
use Rattle.sm_judge_deletion_and_tags.proofs.TagLemmas.{with_tag_found, with_tag_not_found}
use Rattle.sm_judge_deletion_and_tags.proofs.tag_resource.put_tag.Goals as goal

pub returns-in_ok-value-in-Some : goal.returns-in_ok-value-in-Some
returns-in_ok-value-in-Some c =
    let found : Tag = c.index_mut.result.now in
    ap (λ value. set c.args.tags.now.items c.in-Some.place (record found { value = value }))
    c.in_ok-value-in-Some.ensures
    ∙ with_tag_found c.args.tags.now.items c.in-Some.place found c.args.tag.now (cc) (cc)

pub returns-in_ok-push-in-None : goal.returns-in_ok-push-in-None
returns-in_ok-push-in-None c =
    c.in_ok-push-in-None.ensures.items
    ∙ ap (λ tag. c.args.tags.now.items ++ tag ∷ []) c.in_ok-copy-in-None.ensures
    ∙ with_tag_not_found c.args.tags.now.items c.args.tag.now (cc)
