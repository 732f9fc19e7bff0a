use Rattle.std.proofs.Common.{◌∙◌, vec_capacity, vec_len, sym, arith}
use Rattle.std.proofs.lemmas.Bool.{eqb-false}
use Rattle.sm_base.proofs.ChosenLemmas.{got_told, past_told}
use Rattle.sm_base.proofs.front.Front.get.Goals as goal

pub returns-then-place-len : goal.returns-then-place-len
returns-then-place-len g c =
    let some = eqb-false (vec_len c.self.inside.places) 0 (sym c.is_empty.ensures ∙ c.if-is_empty.false) in
    rw (← c.self.view_is)
    (sym (past_told c.self.inside.head (vec_capacity c.self.inside.places) c.self.inside.places.items c.self.invariant
    c.args.place (λ none. some (c.self.inside.places.ok.0 ∙ none))
    (omega (arith, c.if-place-len.true, c.len.ensures, c.self.inside.places.ok))))

pub returns : goal.returns
returns g c =
    rw (← c.self.view_is)
    (c.get-2.ensures
    ∙ sym (got_told c.self.inside.head (vec_capacity c.self.inside.places) c.self.inside.places.items c.self.invariant
    c.args.place c.index.result.now (omega (arith, c.if-place-len.false, c.len.ensures, c.self.inside.places.ok))
    c.index.ensures))
