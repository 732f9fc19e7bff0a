use Rattle.std.proofs.Common.{◌≡◌, drop}
use Rattle.serde_json.specs.View.{items_view}
use Rattle.sm_json.specs.Kinds.{all_items, region}
use Rattle.sm_json.proofs.ItemLemmas.{with_front}
use Rattle.sm_json.proofs.regions.all_regions.Given as goal

-- the regions so far, and those to come
abbrev pub invariant-loop-item : goal.invariant-loop-item
invariant-loop-item l = all_items region (items_view l.items)
    ≡ with_front l.names (all_items region (items_view (drop l.item-index l.items)))
