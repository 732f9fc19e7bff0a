use Rattle.std.proofs.Common.{[], ◌∷◌, sym, ap, ◌∙◌, subst}
use Rattle.sm_account.specs.Accounts.{base, history}
use Rattle.sm_lock.specs.Handles.{built_with, number, seen}
use Rattle.sm_lock.specs.Story.{Grows}
use Rattle.sm_pool.proofs.BehindLemmas.{report_held, report_once}
use Rattle.sm_account.proofs.OriginLemmas.{same_base}
use Rattle.sm_pool.proofs.behind.report_behind.Goals as goal

pub leave-requires-clause-entry : goal.leave-requires-clause-entry
leave-requires-clause-entry g c =
    let account = c.value.result.now in
    report_once c.seat-seat.result _ (c.seat-seat.ensures ∙ sym c.enter-held.ensures.holder) (history account) _
    (history c.report-told.new.account) (ap (λ a. history a) c.value.ensures.value ∙ sym c.enter-held.ensures.entered)
    (base account) c.report-told.result.now c.args.verdict.now.work c.args.verdict.now.answer
    c.report-told.result.reported c.report-told.ensures.reports

pub returns-clause-reports : goal.returns-clause-reports
returns-clause-reports g c =
    let pass = c.args.pass in
    let built = built_with c.args.gate.now in
    report_held (Grows (number pass ∷ [])) _ _ c.seat-seat.ensures (seen pass) _ _ _
    (subst (λ a. Grows (number pass ∷ []) (seen pass) (history a)) (sym c.value.ensures.value)
    c.enter-held.ensures.seen) c.leave.ensures.seen _ _
    (ap (λ a. base a) c.value.ensures.value
    ∙ same_base c.enter-held.result.value.value built c.enter-held.ensures.origin)
    _ _ _ _ c.report-told.ensures.reports
