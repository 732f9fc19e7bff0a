use Rattle.std.proofs.Common.{◌≡◌, ◌++◌}
use Rattle.sm_base.proofs.shared_list.SharedList.of.Given as goal

abbrev pub invariant-loop-entry : goal.invariant-loop-entry
invariant-loop-entry g l = l.blocks ++ l.own.items ≡ l.yielded
