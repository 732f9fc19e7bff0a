use Rattle.std.proofs.Common.{◌∙◌, ap}
use Rattle.sm_versions.specs.Kept.{pairs_named}
use Rattle.sm_base_check.proofs.LabelLemmas.{pairs_named_is}
use Rattle.sm_base_check.proofs.labels.are_named.Goals as goal

pub returns : goal.returns
returns c =
    c.each_named.ensures ∙ pairs_named_is c.args.row.now.versions c.as_slice.result.now
    ∙ ap (pairs_named c.args.row.now.versions) c.as_slice.ensures
