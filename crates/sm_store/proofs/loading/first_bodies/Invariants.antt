use Rattle.std.proofs.Common.{◌≡◌, take}
use Rattle.sm_store.proofs.loading.first_bodies.Given as goal

abbrev pub invariant-loop-index : goal.invariant-loop-index
invariant-loop-index l = l.front.items ≡ take l.index l.bodies
