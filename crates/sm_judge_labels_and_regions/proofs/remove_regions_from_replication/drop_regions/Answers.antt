use Rattle.std.proofs.Common.{not, ◌∙◌, rules}
use Rattle.std.proofs.lemmas.Fn.{filter_same}
use Rattle.sm_versions.specs.Texts.{is_among}
use Rattle.sm_judge_labels_and_regions.proofs.RemoveRegionsFromReplicationLemmas.{without_regions_is_filter}
use Rattle.sm_judge_labels_and_regions.proofs.remove_regions_from_replication.drop_regions.Goals as goal

pub returns : goal.returns
returns c =
    filter_same _ (λ r. not (is_among c.args.gone.now r)) _ (λ x b q k. search rules) _ _
    c.retain.ensures.filtered
    ∙ without_regions_is_filter c.args.regions.now.items c.args.gone.now
