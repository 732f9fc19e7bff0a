use Rattle.std.proofs.Common.{rules, ◌+◌, ◌∷◌, [], ap, ◌∙◌, sym, subst, arith, Some}
use Rattle.atomic_table.specs.Table.{rest}
use Rattle.sm_lock.specs.Boxed.{boxed}
use Rattle.sm_lock.specs.declared.view.QueuePlace.TheVariants.{Out, Inside, Waking}
use Rattle.sm_lock.specs.View.{turned, saw, ticket}
use Rattle.sm_lock.specs.SeatStates.{AddsOne}
use Rattle.sm_lock.proofs.SlotSteps.{raises, returns_value}
use Rattle.sm_lock.proofs.QueueSteps.{serves}
use Rattle.sm_lock.proofs.gate.Gate.put.Goals as goal

pub fetch_add-requires : goal.fetch_add-requires
fetch_add-requires g c =
    let put = c.exchange-before.ensures.3 in let value = c.args.value in (
      search rules,
      search rules,
      raises (boxed g.T.Storied.origin) (boxed g.T.Storied.story) _ _ _ _ _ c.exchange-before.new.seat.me _ value _
          (ap (λ m. m.0.turn) put ∙ c.requires.turn.0)
          (ap (λ m. m.1) put ∙ ap (λ l. (0, Some value) ∷ rest l) c.requires.turn.1) c.requires.value.1
          (subst (λ v. AddsOne v (g.T.Storied.story value.value) c.args.more) (sym (ap (λ m. m.0) put))
          c.requires.more),
    )

pub load-requires : goal.load-requires
load-requires g c =
    let put = c.exchange-before.ensures.3 in let value = c.args.value in
    let carries = ap (λ m. m.1) put ∙ ap (λ l. (0, Some value) ∷ rest l) c.requires.turn.1 in
    let raised = c.fetch_add.ensures.2 value [] carries in (
      search rules,
      search rules,
      returns_value (boxed g.T.Storied.origin) (boxed g.T.Storied.story) _ _ _ _ _ c.fetch_add.new.seat.me _ value
          (ap (λ m. m.0.turn) raised ∙ (ap (λ m. m.0.turn) put ∙ c.requires.turn.0))
          (ap (λ m. m.1) raised ∙ carries) (sym (ap (λ m. m.0.own.seen) raised)) c.requires.value.0,
    )

pub fetch_add-served-requires : goal.fetch_add-served-requires
fetch_add-served-requires g c =
    let put = c.exchange-before.ensures.3 in let value = c.args.value in
    let carries = ap (λ m. m.1) put ∙ ap (λ l. (0, Some value) ∷ rest l) c.requires.turn.1 in
    let raised = c.fetch_add.ensures.2 value [] carries in
    let returned = c.load.ensures.2 _ (ap (λ m. m.0.turn) raised ∙ (ap (λ m. m.0.turn) put ∙ c.requires.turn.0)) in (
      search rules,
      search rules,
      serves (boxed g.T.Storied.origin) (boxed g.T.Storied.story) _ _ _ _ _ c.load.new.seat.me _
          (ap (λ m. m.0.turn) returned),
    )

pub wake-requires-clause-turn : goal.wake-requires-clause-turn
wake-requires-clause-turn g c =
    let put = c.exchange-before.ensures.3 in let value = c.args.value in
    let carries = ap (λ m. m.1) put ∙ ap (λ l. (0, Some value) ∷ rest l) c.requires.turn.1 in
    let raised = c.fetch_add.ensures.2 value [] carries in
    let returned = c.load.ensures.2 _ (ap (λ m. m.0.turn) raised ∙ (ap (λ m. m.0.turn) put ∙ c.requires.turn.0)) in
    let served = c.fetch_add-served.ensures.2 _ (ap (λ m. m.0.turn) returned) in
    let is = ap (λ m. m.0.turn) served.1 in
    (is ∙ ap Waking (sym (ap ticket is)), omega (arith, served.0, ap ticket is))

pub returns-clause-place : goal.returns-clause-place
returns-clause-place g c =
    let m = c.args.place.now.me in let t = ticket m.0.turn in let list = g.T.Storied.story c.args.value.value in
    let put = c.exchange-before.ensures.3 in let value = c.args.value in
    let carries = ap (λ x. x.1) put ∙ ap (λ l. (0, Some value) ∷ rest l) c.requires.turn.1 in
    let raised = c.fetch_add.ensures.2 value [] carries in
    let returned = c.load.ensures.2 t (ap (λ x. x.0.turn) raised ∙ (ap (λ x. x.0.turn) put ∙ c.requires.turn.0)) in
    let served = c.fetch_add-served.ensures.2 t (ap (λ x. x.0.turn) returned) in
    let back = returned ∙ ap (λ x. (turned (Inside t) x.0, rest x.1))
    (raised ∙ ap (λ x. (saw list x.0, x.1)) put) in
    c.wake.ensures.place
    ∙ ap (λ x. (turned Out x.0, x.1)) (served.1 ∙ ap (λ x. (turned (Waking (t + 1)) x.0, x.1)) back)
    ∙ ap (λ l. (turned Out (saw list m.0), rest l)) c.requires.turn.1
