use Rattle.std.proofs.Common.{◌≡◌}
use Rattle.sm_table.specs.Indexed.{room_left}
use Rattle.sm_table.proofs.room.early_room.Given as goal

abbrev pub invariant-loop-made : goal.invariant-loop-made
invariant-loop-made l = l.left ≡ room_left l.made
