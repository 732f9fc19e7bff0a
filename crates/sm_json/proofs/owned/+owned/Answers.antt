use Rattle.std.proofs.Common.{◌≡◌, ◌+◌, drop, Some, option_map, sym, ap, ◌∙◌, arith}
use Rattle.json.specs.Json as grammar
use Rattle.json.specs.Value.{value_view, items_view as tree_items, members_view as tree_members}
use Rattle.json.proofs.Trees.{view-Object}
use Rattle.serde_json.specs.Data.{no_members, object}
use Rattle.serde_json.specs.Read.{of_json, of_items, of_members}
use Rattle.sm_json.proofs.OwnedLemmas.{behind, items_all, items_more}
use Rattle.sm_json.proofs.owned.+owned.Goals as goal

pub owned-returns-in_ok-owned_members-in-Object-clause-ok : goal.owned-returns-in_ok-owned_members-in-Object-clause-ok
owned-returns-in_ok-owned_members-in-Object-clause-ok t c =
    let found = c.in_ok-owned_members-in-Object in
    let seen : value_view c.args.tree.now ≡ grammar.object (tree_members c.in-Object.members.items) =
    ap value_view c.in-Object.is ∙ view-Object c.in-Object.members in
    ap of_json seen
    ∙ ap (λ ms. option_map object (of_members (tree_members ms) no_members)) (sym c.as_slice-in-Object.ensures.value)
    ∙ ap (option_map object) found.ensures.ok
    ∙ ap Some (sym c.from-in-Object.ensures)

pub owned_items-loop-item-preserved : goal.owned_items-loop-item-preserved
owned_items-loop-item-preserved t c =
    let items = c.args.items.now in
    let l = c.loop-item in
    items_more items l.item-index c.item-item.result c.loop-item-test.true c.item-item.is (of_items (tree_items items))
    l.values.items c.in_ok-value.value c.in_ok-value.ensures.ok l.invariant
    ∙ ap (λ vs. option_map (behind vs) (of_items (tree_items (drop (l.item-index + 1) items))))
    (sym c.in_ok-push.ensures.ok)

pub owned_items-returns-clause-ok : goal.owned_items-returns-clause-ok
owned_items-returns-clause-ok t c =
    let items = c.args.items.now in
    let l = c.loop-item in
    items_all items l.item-index (of_items (tree_items items)) l.values.items
    (omega (arith, l.auto.item-index-end, c.loop-item-test.false)) l.invariant
