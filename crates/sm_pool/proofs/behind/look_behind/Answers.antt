use Rattle.std.proofs.Common.{[], ◌∷◌, sym, ap, ◌∙◌, subst}
use Rattle.sm_account.specs.Accounts.{base, history}
use Rattle.sm_lock.specs.Handles.{built_with, number, seen}
use Rattle.sm_lock.specs.Story.{Grows}
use Rattle.sm_pool.proofs.BehindLemmas.{look_held, look_once}
use Rattle.sm_account.proofs.OriginLemmas.{same_base}
use Rattle.sm_pool.proofs.behind.look_behind.Goals as goal

pub leave-requires-clause-entry : goal.leave-requires-clause-entry
leave-requires-clause-entry g c =
    let account = c.value.result.now in
    look_once c.seat-seat.result _ (c.seat-seat.ensures ∙ sym c.enter-held.ensures.holder) (history account) _
    (history c.look-looked.new.account) (ap (λ a. history a) c.value.ensures.value ∙ sym c.enter-held.ensures.entered)
    (base account) c.look-looked.result.now c.look-looked.result.found c.look-looked.ensures.looks

pub returns-clause-looks : goal.returns-clause-looks
returns-clause-looks g c =
    let pass = c.args.pass in
    let built = built_with c.args.gate.now in
    look_held (Grows (number pass ∷ [])) _ _ c.seat-seat.ensures (seen pass) _ _ _
    (subst (λ a. Grows (number pass ∷ []) (seen pass) (history a)) (sym c.value.ensures.value)
    c.enter-held.ensures.seen) c.leave.ensures.seen _ _
    (ap (λ a. base a) c.value.ensures.value
    ∙ same_base c.enter-held.result.value.value built c.enter-held.ensures.origin)
    _ _ c.look-looked.ensures.looks
