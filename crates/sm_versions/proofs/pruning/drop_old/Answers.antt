use Rattle.std.proofs.Common.{List, ap, ◌∙◌}
use Rattle.sm_model.specs.declared.rows.VersionRow.{VersionRow}
use Rattle.sm_versions.proofs.PruneLemmas.{picked_kept}
use Rattle.sm_versions.proofs.pruning.drop_old.Goals as goal

pub returns : goal.returns
returns c =
    ap (λ (versions : List VersionRow). record c.args.row.now { versions = versions })
    (c.retain.ensures ∙ picked_kept c.args.row.now c.args.moment c.least_of_newest-least.result c.as_slice.result.now
    c.least_of_newest-least.ensures c.as_slice.ensures)
