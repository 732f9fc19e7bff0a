use Rattle.std.proofs.Common.{◌≡◌, take}
use Rattle.sm_table.proofs.row_map.RowMap.copies.Given as goal

abbrev pub invariant-loop-i : goal.invariant-loop-i
invariant-loop-i l = l.vec.items ≡ take l.i l.self.list
