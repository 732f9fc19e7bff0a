use Rattle.std.proofs.Common.{◌≡◌, true, take}
use Rattle.sm_base_check.specs.Tests.{each_row}
use Rattle.sm_base_check.proofs.row.each_row.Given as goal

abbrev pub invariant-loop-row : goal.invariant-loop-row
invariant-loop-row l = each_row (take l.row-index l.rows) ≡ true
