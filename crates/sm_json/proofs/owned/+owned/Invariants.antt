use Rattle.std.proofs.Common.{◌≡◌, drop, option_map}
use Rattle.json.specs.Value.{items_view as tree_items, members_view as tree_members}
use Rattle.serde_json.specs.Data.{no_members}
use Rattle.serde_json.specs.Read.{of_items, of_members}
use Rattle.serde_json.specs.View.{members_view}
use Rattle.sm_json.proofs.OwnedLemmas.{behind}
use Rattle.sm_json.proofs.owned.+owned.Given as goal

-- the items so far, and those to come
abbrev pub invariant-owned_items-loop-item : goal.invariant-owned_items-loop-item
invariant-owned_items-loop-item l = of_items (tree_items l.items)
    ≡ option_map (behind l.values.items) (of_items (tree_items (drop l.item-index l.items)))

-- the members to come go into those so far
abbrev pub invariant-owned_members-loop-member : goal.invariant-owned_members-loop-member
invariant-owned_members-loop-member l = of_members (tree_members l.members) no_members
    ≡ of_members (tree_members (drop l.member-index l.members)) (members_view l.values.entries)
