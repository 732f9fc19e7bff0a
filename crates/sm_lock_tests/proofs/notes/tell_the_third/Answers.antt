use Rattle.std.proofs.Common.{◌≡◌, [], ◌∷◌, ◌++◌, ◌∙◌, All, sym, ap, subst, inl, arith, length}
use Rattle.std.proofs.lemmas.List.Elements.{All-cons, All-nil}
use Rattle.sm_lock.specs.Handles.{number, seen, mine, IsIn}
use Rattle.sm_lock_tests.proofs.Added.{longer_by_one}
use Rattle.sm_lock_tests.proofs.notes.tell_the_third.Goals as goal

pub tell_another-one-requires : goal.tell_another-one-requires
tell_another-one-requires g c =
    let one = c.take_apart-one.result.0 in let made = c.in_ok-gate.ensures in
    let new = subst (All (λ pass. IsIn c.in_ok-gate.gate pass × (seen pass ≡ g.T.Storied.story c.args.value)
    × (mine pass ≡ []))) c.take_apart-one.ensures.passes made.seen in
    ((new 0 one (omega arith)).0, (new 2 one (omega arith)).0)

pub leave-three-requires-clause-origin : goal.leave-three-requires-clause-origin
leave-three-requires-clause-origin g c = ap g.T.Storied.origin c.value.ensures.value
    ∙ c.tell_another-one.ensures.value.0

pub leave-three-requires-clause-entry : goal.leave-three-requires-clause-entry
leave-three-requires-clause-entry g c = inl (ap g.T.Storied.story c.value.ensures.value
    ∙ sym c.tell_another-one.ensures.value.1)

pub close-value-requires-clause-gate : goal.close-value-requires-clause-gate
close-value-requires-clause-gate g c =
    let one = c.take_apart-one.result.0 in let made = c.in_ok-gate.ensures in
    let new = subst (All (λ pass. IsIn c.in_ok-gate.gate pass × (seen pass ≡ g.T.Storied.story c.args.value)
    × (mine pass ≡ []))) c.take_apart-one.ensures.passes made.seen in
    let gate = c.in_ok-gate.gate in let first = c.tell_another-one.result.0 in let second = c.take_apart-one.result.1 in
    let third = c.leave-three.result in
    subst (All (λ pass. IsIn gate pass)) (sym c.put_together.ensures)
    (All-cons (λ pass. IsIn gate pass) first (second ∷ third ∷ []) c.tell_another-one.ensures.gate.0
    (All-cons (λ pass. IsIn gate pass) second (third ∷ []) (new 1 one (omega arith)).0
    (All-cons (λ pass. IsIn gate pass) third [] c.leave-three.ensures.gate (All-nil (λ pass. IsIn gate pass)))))

pub returns : goal.returns
returns g c added =
    let one = c.take_apart-one.result.0 in let made = c.in_ok-gate.ensures in let after = c.tell_another-one.result.0 in
    let new = subst (All (λ pass. IsIn c.in_ok-gate.gate pass × (seen pass ≡ g.T.Storied.story c.args.value)
    × (mine pass ≡ []))) c.take_apart-one.ensures.passes made.seen in
    let built : after.place.me.0.built ≡ g.T.Storied.story c.args.value = c.tell_another-one.ensures.gate.0.2
    ∙ ap g.T.Storied.story made.gate.0 in
    let now = longer_by_one (number after) after.place.me.0.built (seen after)
    (g.T.Storied.story c.tell_another-one.result.1.value.value) c.args.entry
    (c.tell_another-one.ensures.added added ∙ ap (λ l. l ++ c.args.entry ∷ []) (new 0 one (omega arith)).2)
    c.tell_another-one.ensures.heard in
    omega (
      arith,
      now,
      ap length built,
      c.length-found.ensures,
      ap
          (λ v. length (g.T.Storied.story v)) c.value.ensures.value,
    )
