use Rattle.std.proofs.Common.{take}
use Rattle.sm_encoded_size.specs.Typed.{RowsTyped}
use Rattle.sm_encoded_size.proofs.typed.note_rows.Given as goal

abbrev pub invariant-loop-row : goal.invariant-loop-row
invariant-loop-row l = RowsTyped (take l.row-index l.rows)
