use Rattle.std.proofs.Common.{◌∙◌, nat_eq, vec_capacity, vec_len, sym, ap, arith}
use Rattle.std.proofs.lemmas.Bool.{eqb-false}
use Rattle.std.specs.Cmp.Lexicographic.{pointwise}
use Rattle.sm_base.specs.Blocks.{passes}
use Rattle.sm_base.proofs.ChosenLemmas.{got_told, past_told}
use Rattle.sm_base.proofs.front.Front.is_at.Goals as goal

pub returns-then-place-len : goal.returns-then-place-len
returns-then-place-len g c =
    let some = eqb-false (vec_len c.self.inside.places) 0 (sym c.is_empty.ensures ∙ c.if-is_empty.false) in
    rw (← c.self.view_is)
    (ap (passes (λ item. pointwise nat_eq (g.T.Keyed.key item) c.args.key.now))
    (sym (past_told c.self.inside.head (vec_capacity c.self.inside.places) c.self.inside.places.items c.self.invariant
    c.args.place (λ none. some (c.self.inside.places.ok.0 ∙ none))
    (omega (arith, c.if-place-len.true, c.len.ensures, c.self.inside.places.ok)))))

pub returns : goal.returns
returns g c =
    rw (← c.self.view_is)
    (c.is_at-2.ensures
    ∙ ap (passes (λ item. pointwise nat_eq (g.T.Keyed.key item) c.args.key.now))
    (sym (got_told c.self.inside.head (vec_capacity c.self.inside.places) c.self.inside.places.items c.self.invariant
    c.args.place c.index.result.now (omega (arith, c.if-place-len.false, c.len.ensures, c.self.inside.places.ok))
    c.index.ensures)))
