use Rattle.std.proofs.Common.{◌≡◌, None, drop}
use Rattle.sm_table.specs.Dates.{lowest_due}
use Rattle.sm_table.proofs.dates.lowest_due.Given as goal

abbrev pub invariant-loop-due : goal.invariant-loop-due
invariant-loop-due l =
    lowest_due l.rows.list l.moment l.lowest (drop l.due-index l.dates) ≡ lowest_due l.rows.list l.moment None l.dates
