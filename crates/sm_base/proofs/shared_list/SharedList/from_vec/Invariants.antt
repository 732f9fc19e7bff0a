use Rattle.std.proofs.Common.{◌≡◌}
use Rattle.sm_base.proofs.shared_list.SharedList.from_vec.Given as goal

abbrev pub invariant-loop-item : goal.invariant-loop-item
invariant-loop-item g l = l.entries.items ≡ l.yielded
