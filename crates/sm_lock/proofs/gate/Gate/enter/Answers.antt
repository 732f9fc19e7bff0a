use Rattle.std.proofs.Common.{rules, ap, ◌∙◌, sym, subst, arith, length, [], ◌∷◌}
use Rattle.sm_lock.specs.Boxed.{boxed}
use Rattle.sm_lock.specs.Story.{Grows}
use Rattle.sm_lock.proofs.Stories.{mine-same}
use Rattle.sm_lock.proofs.QueueSteps.{draws}
use Rattle.sm_lock.proofs.gate.Gate.enter.Goals as goal

pub fetch_add-ticket-requires : goal.fetch_add-ticket-requires
fetch_add-ticket-requires g c = let pass = c.args.pass in (
  c.requires.0,
  search rules,
  draws (boxed g.T.Storied.origin) (boxed g.T.Storied.story) _ _ _ _ _ pass.place.me pass.rests.turn
      (omega (arith, ap length pass.rests.numbers)),
)

pub returns-clause-mine : goal.returns-clause-mine
returns-clause-mine g c =
    let pass = c.args.pass in let v = pass.place.me.0 in
    let drew = c.fetch_add-ticket.ensures.2.2 in let waited = c.wait_for.ensures in
    let took = c.take-value.ensures.place in
    let w = c.take-value.new.place.me.0 in let inside = c.wait_for.new.place.me.0 in
    mine-same pass.number v.built w.built v.own.seen w.own.seen
    (ap (λ m. m.0.built) took ∙ ap (λ m. m.0.built) waited.place ∙ ap (λ m. m.0.built) drew) pass.begins
    (subst (λ l. Grows (pass.number ∷ []) v.own.seen l) (sym (ap (λ m. m.0.own.seen) took))
    (subst (λ ns. Grows ns v.own.seen inside.own.seen) pass.rests.numbers
    (subst (λ m. Grows m.0.own.numbers m.0.own.seen inside.own.seen) drew waited.seen)))
