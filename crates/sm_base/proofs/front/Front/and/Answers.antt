use Rattle.std.proofs.Common.{◌∙◌, ◌++◌, ◌<◌, ◌^◌, length, vec_capacity, vec_len, sym, ap, arith}
use Rattle.std.proofs.lemmas.Bool.{eqb-true, eqb-false}
use Rattle.std.specs.List.{range_with_len}
use Rattle.sm_base.specs.Blocks.{chosen}
use Rattle.sm_base.proofs.ChosenLemmas.{block_told, block_whole, length_within, more_is, told_items, whole}
use Rattle.sm_base.proofs.front.Front.and.Goals as goal
use Rattle.sm_base.proofs.front.Front.and.Goals.{then-not-is_empty+in_ok-extend_from_slice, else-not-is_empty}

pub tell-requires-clause-room : goal.tell-requires-clause-room
tell-requires-clause-room g c =
    let fewer = length_within 0 (length c.self.inside.head) c.self.inside.places.items (omega arith)
    c.self.invariant.within in
    omega (
      arith,
      fewer,
      c.in_ok-extend_from_slice.ensures.len,
      c.in_ok-extend_from_slice.ensures.capacity,
      c.as_slice.ensures.len,
      c.self.inside.places.ok,
      c.in_ok-places.ensures.room,
      c.in_ok-places.places.ok,
      ap length c.in_ok-places.ensures.none,
      c.extend_from_slice.new.self.ok,
      c.len.ensures.count,
      c.len-then-not-is_empty.ensures.count,
      c.len-then-not-is_empty-2.ensures.count,
    )

pub invariant_of-result : goal.invariant_of-result
invariant_of-result g c =
    let head = c.self.inside.head in
    let places = c.self.inside.places.items in
    let room = vec_capacity c.self.inside.places in
    let counted : length c.in_ok-head.head < 2 ^ 32 =
    omega (arith, c.len.ensures.count, c.in_ok-places.ensures.counted) in
    elim c.if-not-is_empty.branch [
      | then-not-is_empty+in_ok-extend_from_slice w ↦
          rw w.places-is
          (block_told head c.args.entries.items c.in_ok-head.head room places c.self.invariant c.in_ok-head.ensures
          (vec_capacity w.tell.new.places)
          (omega (
            arith,
            c.len.ensures.count,
            c.in_ok-places.ensures.room,
            w.in_ok-extend_from_slice.ensures.capacity,
            w.tell.ensures.room,
          )) counted w.tell.new.places.items
          (told_items head c.args.entries.items c.in_ok-head.head places c.in_ok-places.places.items
          w.extend_from_slice.new.self.items w.tell.new.places.items w.len-then-not-is_empty.result
          w.len-then-not-is_empty-2.result c.in_ok-head.ensures w.len-then-not-is_empty.ensures.count
          w.len-then-not-is_empty-2.ensures.count c.in_ok-places.ensures.none
          (w.in_ok-extend_from_slice.ensures.items
          ∙ ap (λ l. c.in_ok-places.places.items ++ l) w.as_slice.ensures.value) w.tell.ensures.told))
      | else-not-is_empty w ↦
          rw w.places-is
          (rw c.in_ok-places.ensures.none
          (block_whole head c.args.entries.items c.in_ok-head.head room places c.self.invariant c.in_ok-head.ensures
          (vec_capacity c.in_ok-places.places)
          (omega (arith, c.len.ensures.count, c.in_ok-places.ensures.room)) counted))
    ]

pub returns : goal.returns
returns g c =
    let head = c.self.inside.head in
    let places = c.self.inside.places.items in
    let room = vec_capacity c.self.inside.places in
    elim c.if-not-is_empty.branch [
      | then-not-is_empty+in_ok-extend_from_slice w ↦
          let some = eqb-false (vec_len c.self.inside.places) 0 (sym c.is_empty.ensures ∙ w.if-not-is_empty.true) in
          rw w.places-is
          (ap (chosen c.in_ok-head.head)
          (told_items head c.args.entries.items c.in_ok-head.head places c.in_ok-places.places.items
          w.extend_from_slice.new.self.items w.tell.new.places.items w.len-then-not-is_empty.result
          w.len-then-not-is_empty-2.result c.in_ok-head.ensures w.len-then-not-is_empty.ensures.count
          w.len-then-not-is_empty-2.ensures.count c.in_ok-places.ensures.none
          (w.in_ok-extend_from_slice.ensures.items
          ∙ ap (λ l. c.in_ok-places.places.items ++ l) w.as_slice.ensures.value) w.tell.ensures.told)
          ∙ ap (λ h. chosen h (places ++ range_with_len (length head) (length c.args.entries.items)))
          c.in_ok-head.ensures
          ∙ more_is head room places c.self.invariant c.args.entries.items
          (λ none. some (c.self.inside.places.ok.0 ∙ none)) ∙ ap (λ l. l ++ c.args.entries.items) c.self.view_is)
      | else-not-is_empty w ↦
          let none = eqb-true (vec_len c.self.inside.places) 0 (sym c.is_empty.ensures ∙ w.if-not-is_empty.false) in
          rw w.places-is
          (ap (chosen c.in_ok-head.head) c.in_ok-places.ensures.none ∙ c.in_ok-head.ensures
          ∙ ap (λ l. l ++ c.args.entries.items)
          (sym (whole head places (sym c.self.inside.places.ok.0 ∙ none)) ∙ c.self.view_is))
    ]
