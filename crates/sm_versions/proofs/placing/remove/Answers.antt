use Rattle.std.proofs.Common.{not, ◌∙◌, rules}
use Rattle.std.proofs.lemmas.Fn.{filter_same}
use Rattle.sm_base.specs.Texts.{same_text}
use Rattle.sm_versions.proofs.LabelLemmas.{without_is_filter}
use Rattle.sm_versions.proofs.placing.remove.Goals as goal

pub returns : goal.returns
returns c =
    filter_same _ (λ p. not (same_text p.label c.args.label.now)) _ (λ x b q k. search rules) _ _
    c.retain.ensures.filtered
    ∙ without_is_filter c.args.pairs.now.items c.args.label.now
