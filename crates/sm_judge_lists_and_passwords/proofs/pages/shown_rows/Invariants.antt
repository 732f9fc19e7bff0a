use Rattle.std.proofs.Common.{◌≡◌, ◌++◌, map, length, drop}
use Rattle.sm_listing.specs.Pages.{ordered}
use Rattle.sm_judge_lists_and_passwords.specs.Pages.{picked, row_serial}
use Rattle.sm_judge_lists_and_passwords.proofs.pages.shown_rows.Given as goal

abbrev pub invariant-loop-step : goal.invariant-loop-step
invariant-loop-step g l =
    map g.T.Shown.shown (picked row_serial l.serials (ordered l.descending l.table.secrets))
    ≡ l.list
    ++ map g.T.Shown.shown
    (picked row_serial (drop (length l.list) l.serials) (drop l.step (ordered l.descending l.table.secrets)))
