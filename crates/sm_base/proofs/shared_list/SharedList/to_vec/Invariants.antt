use Rattle.std.proofs.Common.{◌≡◌, take}
use Rattle.sm_base.proofs.shared_list.SharedList.to_vec.Given as goal

abbrev pub invariant-loop-place : goal.invariant-loop-place
invariant-loop-place g l = l.vec.items ≡ take l.place l.self
