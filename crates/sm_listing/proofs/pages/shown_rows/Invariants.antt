use Rattle.std.proofs.Common.{◌≡◌, ◌≤◌, length, map, take}
use Rattle.std.specs.List.{filter}
use Rattle.sm_model.specs.declared.rows.SecretRow.{SecretRow}
use Rattle.sm_listing.specs.Pages.{comes, ordered}
use Rattle.sm_listing.proofs.pages.shown_rows.Given as goal

abbrev pub invariant-loop-step : goal.invariant-loop-step
invariant-loop-step g l =
    (l.serials.items ≡ map (λ (row : SecretRow). row.serial)
    (filter (comes l.moment l.ask l.start) (take l.step (ordered l.ask.descending (g.L.RowList.rows l.rows)))))
    × (length l.serials.items ≤ l.ask.max)
