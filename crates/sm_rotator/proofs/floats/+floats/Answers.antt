use Rattle.std.proofs.Common.{◌≡◌, ◌∷◌, [], ◌++◌, sym, ap, ◌∙◌, append_assoc, arith}
use Rattle.serde_json.proofs.Views.{Entry}
use Rattle.sm_rotator.proofs.FloatLemmas.{none_more, some_item, some_member, none_with}
use Rattle.sm_rotator.proofs.floats.+floats.Goals as goal

pub items_have_float-returns-then-has_float : goal.items_have_float-returns-then-has_float
items_have_float-returns-then-has_float t c =
    let same : c.deref-item-items.result.now ≡ c.args.items.now.items = c.deref-item-items.ensures.value in
    sym (some_item c.args.items.now.items c.loop-item.item-index c.item-item.result (omega arith) (cc) (cc))

pub items_have_float-loop-item-preserved : goal.items_have_float-loop-item-preserved
items_have_float-loop-item-preserved t c =
    none_more c.deref-item-items.result.now c.loop-item.item-index c.item-item.result c.loop-item-test.true
    c.item-item.is c.loop-item.invariant (cc)

pub members_have_float-returns-then-has_float : goal.members_have_float-returns-then-has_float
members_have_float-returns-then-has_float t c =
    let i = c.loop-value.invariant in
    let e : Entry = (c.in-Some.field-0-0.now, c.in-Some.value.now) in
    sym (some_member i.0 e c.next.new.self c.args.members.now.entries
    (i.1 ∙ ap (λ es. i.0 ++ es) c.in-Some.ensures.steps) (cc))

pub members_have_float-loop-value-preserved : goal.members_have_float-loop-value-preserved
members_have_float-loop-value-preserved t c =
    let i = c.loop-value.invariant in
    let e : Entry = (c.in-Some.field-0-0.now, c.in-Some.value.now) in (
      i.0 ++ e ∷ [],
      i.1 ∙ ap (λ es. i.0 ++ es) c.in-Some.ensures.steps ∙ sym (append_assoc i.0 (e ∷ []) c.next.new.self),
      none_with i.0 e i.2 (cc),
    )
