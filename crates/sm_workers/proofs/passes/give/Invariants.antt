use Rattle.std.proofs.Common.{◌≡◌, ◌≤◌, length, take, vec_capacity}
use Rattle.sm_workers.proofs.GivenLemmas.{GivenFrom}
use Rattle.sm_workers.proofs.passes.give.Given as goal

-- the workers from the place on have their passes, and the other passes are left
abbrev pub invariant-loop-left : goal.invariant-loop-left
invariant-loop-left g l = record {
  so_far : GivenFrom l.left l.fn.passes l.fn.workers l.workers;
  room : l.room.items ≡ take l.left l.fn.passes;
  space : length l.fn.workers ≤ vec_capacity l.room;
}

abbrev pub decreases-loop-left : goal.decreases-loop-left
decreases-loop-left g l = l.left
