use Rattle.std.proofs.Common.{[], ◌∷◌, ◌∙◌, sym, subst}
use Rattle.sm_lock.specs.Story.{Grows}
use Rattle.sm_lock.specs.Handles.{number, seen, noted}
use Rattle.sm_lock.proofs.Stories.{grows-none, grows-trans}
use Rattle.sm_lock_tests.proofs.notes.tell_another.Goals as goal

pub returns-clause-heard : goal.returns-clause-heard
returns-clause-heard g c =
    let one = c.tell-one.result.0 in let note = c.tell-one.result.1 in let other = c.hear-other.result in
    let list = g.T.Storied.story c.enter.result.value.value in
    subst (λ l. Grows [] l list) (c.tell-one.ensures.note ∙ sym c.tell-one.ensures.pass.1)
    (grows-trans [] (noted note) (seen other) list c.hear-other.ensures.heard
    (grows-none (seen other) list (number other ∷ []) c.enter.ensures.seen))
