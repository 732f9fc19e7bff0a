use Rattle.std.proofs.Common.{◌≡◌, drop}
use Rattle.serde_json.specs.View.{items_view}
use Rattle.sm_policy_text.specs.Kinds.{all_items}
use Rattle.sm_policy_text.proofs.ItemLemmas.{with_front}
use Rattle.sm_policy_text.proofs.kinds.all_items.Given as goal

-- the items so far, and those to come
abbrev pub invariant-loop-item : goal.invariant-loop-item
invariant-loop-item g l = all_items g.R.Reader.reads (items_view l.items) ≡ with_front l.parts
    (all_items g.R.Reader.reads (items_view (drop l.item-index l.items)))
