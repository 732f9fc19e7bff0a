use Rattle.std.proofs.Common.{[], ◌∷◌, sym, ap, ◌∙◌, subst}
use Rattle.sm_account.specs.Accounts.{base, history}
use Rattle.sm_lock.specs.Handles.{built_with, number, seen}
use Rattle.sm_lock.specs.Story.{Grows}
use Rattle.sm_pool.proofs.BehindLemmas.{start_held, start_once}
use Rattle.sm_account.proofs.OriginLemmas.{same_base}
use Rattle.sm_pool.proofs.behind.start_behind.Goals as goal

pub leave-requires-clause-entry : goal.leave-requires-clause-entry
leave-requires-clause-entry g c =
    let account = c.value.result.now in
    start_once c.seat-seat.result _ (c.seat-seat.ensures ∙ sym c.enter-held.ensures.holder) (history account) _
    (history c.start-begun.new.account) (ap (λ a. history a) c.value.ensures.value ∙ sym c.enter-held.ensures.entered)
    (base account) c.start-begun.result.now c.args.drawn.now c.start-begun.result.started c.start-begun.ensures.starts

pub returns-clause-starts : goal.returns-clause-starts
returns-clause-starts g c =
    let pass = c.args.pass in
    let built = built_with c.args.gate.now in
    start_held (Grows (number pass ∷ [])) _ _ c.seat-seat.ensures (seen pass) _ _ _
    (subst (λ a. Grows (number pass ∷ []) (seen pass) (history a)) (sym c.value.ensures.value)
    c.enter-held.ensures.seen) c.leave.ensures.seen _ _
    (ap (λ a. base a) c.value.ensures.value
    ∙ same_base c.enter-held.result.value.value built c.enter-held.ensures.origin)
    _ _ _ c.start-begun.ensures.starts
