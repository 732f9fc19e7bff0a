use Rattle.std.proofs.Common.{◌≡◌, map, take}
use Rattle.sm_base.proofs.shared_list.SharedList.items.Given as goal

abbrev pub invariant-loop-place : goal.invariant-loop-place
invariant-loop-place g l = map (λ item. item.now) l.vec.items ≡ take l.place l.self
