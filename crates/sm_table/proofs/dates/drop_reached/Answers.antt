use Rattle.std.proofs.Common.{rules}
use Rattle.std.proofs.lemmas.Fn.{filter_same}
use Rattle.sm_table.specs.Dates.{is_later}
use Rattle.sm_table.proofs.dates.drop_reached.Goals as goal

pub returns-clause-later : goal.returns-clause-later
returns-clause-later c =
    filter_same _ (is_later c.args.moment) _ (λ x b q k. search rules) _ _ c.retain.ensures.filtered
