use Rattle.std.proofs.Common.{[], ◌∷◌, sym, ap, subst}
use Rattle.sm_lock.specs.Story.{Grows}
use Rattle.sm_lock.specs.Handles.{number, seen}
use Rattle.sm_lock.proofs.Stories.{grows-none, grows-trans}
use Rattle.sm_lock_tests.proofs.Added.{grown_by}
use Rattle.sm_lock_tests.proofs.calls.add.Goals as goal

pub returns-clause-seen : goal.returns-clause-seen
returns-clause-seen g c =
    let story = g.T.Storied.story in let before = seen c.args.pass in let held = c.enter-held.result.value.value in
    let entered = grows-none before (story held) (number c.args.pass ∷ []) c.enter-held.ensures.seen in
    let more = grown_by c.add.result (c.seat-seat.result, c.args.entry) (story c.value.result.now)
    (story c.add.new.self) c.add.ensures.ok c.add.ensures.err in
    subst (Grows [] before) (sym c.leave.ensures.seen)
    (grows-trans [] before (story held) (story c.add.new.self) entered
    (subst (λ l. Grows [] l (story c.add.new.self)) (ap story c.value.ensures.value) more))
