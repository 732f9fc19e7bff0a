use Rattle.std.proofs.Common.{◌∙◌, length, vec_capacity, vec_len, sym, ap, arith}
use Rattle.std.proofs.lemmas.Bool.{eqb-false}
use Rattle.sm_base.proofs.ChosenLemmas.{length_told}
use Rattle.sm_base.proofs.front.Front.len.Goals as goal

pub returns-else-is_empty : goal.returns-else-is_empty
returns-else-is_empty g c =
    let some = eqb-false (vec_len c.self.inside.places) 0 (sym c.is_empty.ensures ∙ c.if-is_empty.false) in
    record {
      count = c.len-else-is_empty.ensures ∙ c.self.inside.places.ok.0
          ∙ sym (length_told c.self.inside.head (vec_capacity c.self.inside.places) c.self.inside.places.items
          c.self.invariant (λ none. some (c.self.inside.places.ok.0 ∙ none)))
          ∙ ap length c.self.view_is;
      bound = omega (arith, c.len-else-is_empty.ensures, c.self.inside.places.ok, c.self.inside.places.small);
    }
