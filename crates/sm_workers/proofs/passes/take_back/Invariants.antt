use Rattle.std.proofs.Common.{◌≤◌, length, vec_capacity}
use Rattle.sm_workers.proofs.GivenLemmas.{TakenTo}
use Rattle.sm_workers.proofs.passes.take_back.Given as goal

-- the passes of the workers before the place were taken
abbrev pub invariant-loop-place : goal.invariant-loop-place
invariant-loop-place g l = record {
  so_far : TakenTo l.place l.room.items l.fn.workers l.workers;
  space : length l.fn.workers ≤ vec_capacity l.room;
}
