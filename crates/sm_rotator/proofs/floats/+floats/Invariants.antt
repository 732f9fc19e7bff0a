use Rattle.std.proofs.Common.{◌≡◌, List, ◌++◌, take, map, false}
use Rattle.serde_json.specs.View.{view, items_of, members_view}
use Rattle.serde_json.specs.Written.{items_have_float, members_have_float}
use Rattle.serde_json.proofs.Views.{Entry}
use Rattle.sm_rotator.proofs.floats.+floats.Given as goal

abbrev pub invariant-items_have_float-loop-item : goal.invariant-items_have_float-loop-item
invariant-items_have_float-loop-item l =
    items_have_float (items_of (map view (take l.item-index l.item-items))) ≡ false

abbrev pub invariant-members_have_float-loop-value : goal.invariant-members_have_float-loop-value
invariant-members_have_float-loop-value l =
    (done : List Entry) × (l.members.entries ≡ done ++ l.value-iterator)
    × (members_have_float (members_view done) ≡ false)
