use Rattle.std.proofs.Common.{◌≤◌}
use Rattle.std.specs.Fn.{FnReturnsAt}
use Rattle.sm_visits.specs.Least.{LeastBelow}
use Rattle.sm_visits.proofs.connection_table.ConnectionTable.first_least.Given as goal

abbrev pub invariant-loop-place : goal.invariant-loop-place
invariant-loop-place g l = LeastBelow (FnReturnsAt g.F.Fn l.key) l.self l.place l.least × (l.place ≤ l.place-end)
