use Rattle.std.proofs.Common.{◌≡◌, ◌++◌, ◌∷◌, [], length, Some, sym, ◌∙◌, arith}
use Rattle.std.specs.List.{slice_get}
use Rattle.std.proofs.lemmas.Bool.{false≢true}
use Rattle.sm_listing.specs.Pages.{ordered}
use Rattle.sm_judge_lists_and_passwords.specs.Pages.{row_serial}
use Rattle.sm_judge_lists_and_passwords.proofs.PickedLemmas.{picked_hit, picked_miss, picked_end, picked_full, length_ordered}
use Rattle.sm_judge_lists_and_passwords.proofs.pages.shown_rows.Goals.{then-is_next+in_ok-shown+in_ok-push, else-is_next}
use Rattle.sm_judge_lists_and_passwords.proofs.pages.shown_rows.Goals as goal

pub returns-then-len-serials : goal.returns-then-len-serials
returns-then-len-serials g c =
    picked_full row_serial g.T.Shown.shown c.args.serials.now (ordered c.args.descending c.args.table.now.secrets)
    c.loop-step.step c.loop-step.list _ (omega arith) c.loop-step.invariant

pub loop-step-preserved : goal.loop-step-preserved
loop-step-preserved g c =
    let rows = ordered c.args.descending c.args.table.now.secrets in
    let serials = c.args.serials.now in
    let row = c.row_at-row.result.now in
    let list = c.loop-step.list in
    let shown = g.T.Shown.shown in
    elim c.if-is_next.branch [
      | then-is_next+in_ok-shown+in_ok-push w ↦
          let next : slice_get serials (length list) ≡ Some row.serial =
          rw (← c.len-in-loop-step.ensures) (c.is_next.ensures.0 w.if-is_next.true) in
          let more : c.if-is_next.list ≡ list ++ shown row ∷ [] =
          cc (w.in_ok-push.ensures.ok, w.in_ok-shown.ensures) in
          rw more (picked_hit row_serial shown serials rows c.loop-step.step row list _ c.row_at-row.ensures next
          c.loop-step.invariant)
      | else-is_next w ↦
          let within = c.if-len-serials.false in
          let same : c.if-is_next.list ≡ list = cc in
          rw same (picked_miss row_serial shown serials rows c.loop-step.step row list _ c.row_at-row.ensures
          (λ next. absurd (false≢true (sym w.if-is_next.false
          ∙ c.is_next.ensures.1 (rw c.len-in-loop-step.ensures next)))) (omega arith) c.loop-step.invariant)
    ]

pub returns : goal.returns
returns g c =
    let rows = ordered c.args.descending c.args.table.now.secrets in
    let count = length_ordered c.args.descending c.args.table.now.secrets in
    picked_end row_serial g.T.Shown.shown c.args.serials.now rows c.loop-step.step c.loop-step.list _
    (omega (arith, count)) c.loop-step.invariant
