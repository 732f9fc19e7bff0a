use Rattle.std.proofs.Common.{◌≡◌, [], ◌∷◌, get_or, length, take, ap, ◌∙◌, sym, subst}
use mathlib.Core.Option.{some}
use Rattle.std.proofs.lemmas.List.Elements.{All-push}
use Rattle.sm_lock.specs.Boxed.{boxed}
use Rattle.sm_lock.specs.Story.{Grows}
use Rattle.sm_lock.specs.Handles.{built_with, number, seen}
use Rattle.sm_lock.proofs.Passes.{all_stand}
use Rattle.sm_lock.proofs.Closing.{Closed, closed_some, closed_value}
use Rattle.sm_lock.proofs.gate.Gate.close.Given as given
use Rattle.sm_lock.proofs.gate.Gate.close.Goals as goal

pub unreachable-requires-in_default-take : goal.unreachable-requires-in_default-take
unreachable-requires-in_default-take g c =
    let first = c.in-Some.first in let others = c.pop.new.self.items in let place = c.gather-place.result in
    let gathered = c.gather-place.ensures in
    closed_some (boxed g.T.Storied.origin) (boxed g.T.Storied.story) _ _ _ number seen first others c.args.passes
    (sym c.into_vec-others.ensures ∙ c.in-Some.ensures.items)
    (c.requires.whole ∙ sym c.args.self.counted.0) place.id place.me.0
    gathered.place.turn gathered.place.plain.told gathered.place.numbers
    (All-push (λ pass. Grows (number pass ∷ []) (seen pass) place.me.0.own.seen) others first gathered.others
    gathered.first)
    _ _ c.close_with-closed.ensures.values.2 c.take.result c.take.ensures.value c.in_default-take.not-Some

-- the block that comes out
in_block : (g : given.Over) (c : goal.After-into_inner g)
    → Closed (boxed g.T.Storied.origin) (boxed g.T.Storied.story) (g.T.Storied.origin (built_with c.args.self))
    (g.T.Storied.story (built_with c.args.self)) c.args.self.board.shared.key.seats number seen c.args.passes
    c.in-Some-take.value
in_block g c =
    let first = c.in-Some.first in let others = c.pop.new.self.items in let place = c.gather-place.result in
    let gathered = c.gather-place.ensures in
    closed_value (boxed g.T.Storied.origin) (boxed g.T.Storied.story) _ _ _ number seen first others c.args.passes
    (sym c.into_vec-others.ensures ∙ c.in-Some.ensures.items)
    (c.requires.whole ∙ sym c.args.self.counted.0) place.id place.me.0
    gathered.place.turn gathered.place.plain.told gathered.place.numbers
    (All-push (λ pass. Grows (number pass ∷ []) (seen pass) place.me.0.own.seen) others first gathered.others
    gathered.first)
    _ _ c.close_with-closed.ensures.values.2 c.in-Some-take.value (c.take.ensures.value ∙ ap some c.in-Some-take.is)

-- the value that comes out
closed : (g : given.Over) (c : goal.After-into_inner g)
    → Closed g.T.Storied.origin g.T.Storied.story (g.T.Storied.origin (built_with c.args.self))
    (g.T.Storied.story (built_with c.args.self)) c.args.self.board.shared.key.seats number seen c.args.passes
    c.into_inner.result
closed g c =
    let block = in_block g c in
    subst (Closed g.T.Storied.origin g.T.Storied.story (g.T.Storied.origin (built_with c.args.self))
    (g.T.Storied.story (built_with c.args.self)) c.args.self.board.shared.key.seats number seen c.args.passes)
    (sym c.into_inner.ensures)
    (record { origin = block.origin; begins = block.begins; known = block.known; numbers = block.numbers })

pub returns-clause-origin : goal.returns-clause-origin
returns-clause-origin g c = (closed g c).origin

pub returns-clause-built : goal.returns-clause-built
returns-clause-built g c = (closed g c).begins

pub returns-clause-seen : goal.returns-clause-seen
returns-clause-seen g c = (closed g c).known

pub returns-clause-numbers : goal.returns-clause-numbers
returns-clause-numbers g c = (closed g c).numbers

pub returns-clause-stands : goal.returns-clause-stands
returns-clause-stands g c =
    let built = g.T.Storied.story (built_with c.args.self) in let whole = g.T.Storied.story c.into_inner.result in
    all_stand number seen built whole c.args.passes (closed g c).begins
    (λ k d lt. (
      (closed g c).known k d lt,
      subst (λ b. take (length b) (seen (get_or c.args.passes k d)) ≡ b)
          (c.requires.gate k d lt).2 (get_or c.args.passes k d).begins,
    ))
    (closed g c).numbers
