use Rattle.std.proofs.Common.{◌≡◌, ◌++◌, flat_map, take}
use Rattle.sm_record.proofs.lists.put_items.Given as goal

abbrev pub invariant-loop-item : goal.invariant-loop-item
invariant-loop-item g l =
    l.out ≡ l.fn.out ++ flat_map (g.A.Field.codec l.edition).spell (take l.item-index l.items)
