use Rattle.std.proofs.Common.{◌∙◌, None, ap}
use Rattle.sm_versions.specs.Due.{due_date}
use Rattle.sm_table.specs.Dates.{lowest_due}
use Rattle.sm_table.proofs.DateLemmas.{dates_ordered, lowest_is_first}
use Rattle.sm_table.proofs.indexed.Indexed.first_due.Goals as goal

pub lowest_due-requires : goal.lowest_due-requires
lowest_due-requires c =
    rw (c.as_slice.ensures.value, c.requires.kept.signs.dates) (dates_ordered due_date c.args.self.now.rows.list)

pub returns : goal.returns
returns c =
    c.lowest_due.ensures
    ∙ ap (lowest_due c.args.self.now.rows.list c.args.moment None)
    (c.as_slice.ensures.value ∙ c.requires.kept.signs.dates)
    ∙ lowest_is_first c.args.self.now.rows.list c.args.moment c.requires.rising
