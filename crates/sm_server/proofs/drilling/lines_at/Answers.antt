use Rattle.std.proofs.Common.{◌≡◌, ℕ, List, IfOk, ap, subst, ◌∙◌, option_map, string_bytes}
use Rattle.sm_model.specs.declared.rows.Rows.{Rows}
use Rattle.sm_core.specs.Histories.{replay}
use Rattle.sm_account.specs.Accounts.{base, history, taken}
use Rattle.sm_account.specs.History.{entries_in}
use Rattle.sm_account.proofs.HeldLemmas.{made_count}
use Rattle.sm_recovery.specs.Lawful.{made_of}
use Rattle.sm_drill.specs.Lines.{lines}
use Rattle.sm_summary.specs.Summary.{totals_of}
use Rattle.sm_server.specs.Drills.{totals_after}
use Rattle.sm_server.proofs.drilling.lines_at.Goals as goal

pub returns : goal.returns
returns g c =
    let account = c.args.account.now in
    let drilled = c.args.drilled.now in
    let shown = option_map string_bytes c.in_ok-shown.shown in
    let after : List ℕ =
    totals_after (base account) (made_of (taken account)).entries (history account) c.args.now in
    let totals : c.as_str.result.now ≡ after =
    c.as_str.ensures.value ∙ c.in_ok-totals.ensures
    ∙ ap (λ (r : Rows). totals_of r c.args.now c.entries.result) (c.table.ensures ∙ c.invariants.ensures.rows)
    ∙ ap (totals_of (replay (base account).rows (entries_in (history account))) c.args.now)
    (c.entries.ensures ∙ made_count (taken account) (entries_in (history account))) in
    subst (λ (text : List ℕ). IfOk c.lines.result (λ made. string_bytes made ≡ text))
    (ap (λ (t : List ℕ). lines drilled.refused t shown) totals ∙ ap (lines drilled.refused after) c.in_ok-shown.ensures)
    c.lines.ensures
