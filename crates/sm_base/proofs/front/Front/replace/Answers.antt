use Rattle.std.proofs.Common.{◌≡◌, ◌∙◌, ◌<◌, length, slice_set, vec_capacity, vec_len, sym, ap, subst, arith}
use Rattle.std.proofs.lemmas.Bool.{eqb-true, eqb-false}
use Rattle.sm_base.specs.Blocks.{chosen}
use Rattle.sm_base.proofs.ChosenLemmas.{length_told, place_told, replaced_told, replaced_whole, whole}
use Rattle.sm_base.proofs.front.Front.replace.Goals as goal
use Rattle.sm_base.proofs.front.Front.replace.Goals.{then-is_empty, else-is_empty}

pub index-requires : goal.index-requires
index-requires g c =
    let some = eqb-false (vec_len c.self.inside.places) 0 (sym c.is_empty.ensures ∙ c.if-is_empty.false) in
    let here : c.args.place < length (chosen c.self.inside.head c.self.inside.places.items) =
    subst (λ items. c.args.place < length items) (sym c.self.view_is) c.requires in
    let all = length_told c.self.inside.head (vec_capacity c.self.inside.places) c.self.inside.places.items
    c.self.invariant (λ none. some (c.self.inside.places.ok.0 ∙ none)) in
    omega (arith, here, all, c.self.inside.places.ok)

pub with-requires : goal.with-requires
with-requires g c =
    let here : c.args.place < length (chosen c.self.inside.head c.self.inside.places.items) =
    subst (λ items. c.args.place < length items) (sym c.self.view_is) c.requires in
    elim c.if-is_empty.branch [
      | then-is_empty w ↦
          let none = eqb-true (vec_len c.self.inside.places) 0 (sym c.is_empty.ensures ∙ w.if-is_empty.true) in
          rw w.at-is
          (subst (λ items. c.args.place < length items)
          (whole c.self.inside.head c.self.inside.places.items (sym c.self.inside.places.ok.0 ∙ none)) here)
      | else-is_empty w ↦
          let some = eqb-false (vec_len c.self.inside.places) 0 (sym c.is_empty.ensures ∙ w.if-is_empty.false) in
          rw w.at-is
          (place_told c.self.inside.head (vec_capacity c.self.inside.places) c.self.inside.places.items c.self.invariant
          c.args.place w.index.result.now here (λ none. some (c.self.inside.places.ok.0 ∙ none)) w.index.ensures)
    ]

pub returns-clause-ok : goal.returns-clause-ok
returns-clause-ok g c =
    let head = c.self.inside.head in
    let places = c.self.inside.places.items in
    let here : c.args.place < length (chosen head places) =
    subst (λ items. c.args.place < length items) (sym c.self.view_is) c.requires in
    let inner : chosen (slice_set head c.if-is_empty.at c.args.entry) places
    ≡ slice_set (chosen head places) c.args.place c.args.entry =
    elim c.if-is_empty.branch [
      | then-is_empty w ↦
          let none = eqb-true (vec_len c.self.inside.places) 0 (sym c.is_empty.ensures ∙ w.if-is_empty.true) in
          rw w.at-is
          (replaced_whole head places c.args.place c.args.entry (sym c.self.inside.places.ok.0 ∙ none))
      | else-is_empty w ↦
          let some = eqb-false (vec_len c.self.inside.places) 0 (sym c.is_empty.ensures ∙ w.if-is_empty.false) in
          rw w.at-is
          (replaced_told head (vec_capacity c.self.inside.places) places c.self.invariant c.args.place
          w.index.result.now c.args.entry here (λ none. some (c.self.inside.places.ok.0 ∙ none)) w.index.ensures)
    ] in
    ap (λ h. chosen h places) c.in_ok-self-inside.ensures ∙ inner
    ∙ ap (λ l. slice_set l c.args.place c.args.entry) c.self.view_is
