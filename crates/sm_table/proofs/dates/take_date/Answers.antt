use Rattle.std.proofs.Common.{◌∙◌, ap}
use Rattle.sm_table.specs.declared.dates.DueDate.{DueDate}
use Rattle.sm_table.specs.Ordered.{taken}
use Rattle.sm_table.specs.Dates.{is_before, with_date}
use Rattle.sm_table.proofs.DateLemmas.{date_laws, but_ordered}
use Rattle.sm_table.proofs.OrderedLemmas.{placed_taken}
use Rattle.sm_table.proofs.dates.take_date.Goals as goal

pub take_out-requires : goal.take_out-requires
take_out-requires c =
    record { ordered = but_ordered c.args.dates.now.items _ c.args.was c.args.serial c.requires.0 c.requires.1 }

pub returns-in-Some-clause-dates : goal.returns-in-Some-clause-dates
returns-in-Some-clause-dates c = λ others e.
    let due : DueDate = record { date = c.in-Some.date; serial = c.args.serial } in
    c.take_out.ensures.dates
    ∙ ap (λ xs. taken is_before xs due) (e ∙ ap (λ o. with_date o others c.args.serial) c.in-Some.is)
    ∙ placed_taken is_before date_laws others due
