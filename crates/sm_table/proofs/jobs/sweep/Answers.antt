use Rattle.std.proofs.Common.{rules}
use Rattle.std.proofs.lemmas.Fn.{filter_same}
use Rattle.sm_table.specs.Changes.{row_with}
use Rattle.sm_table.specs.Maps.{stays}
use Rattle.sm_table.proofs.jobs.sweep.Goals as goal

pub returns-clause-serials : goal.returns-clause-serials
returns-clause-serials c =
    filter_same _ (λ s. stays (row_with c.args.rows.now.list s) c.args.moment) _ (λ x b q k. search rules) _ _
    c.retain.ensures.filtered
