use Rattle.std.proofs.Common.{◌≡◌, take}
use Rattle.sm_base.proofs.shared_list.SharedList.entries.Given as goal

abbrev pub invariant-loop-place : goal.invariant-loop-place
invariant-loop-place g l = l.entries.items ≡ take l.place l.self
