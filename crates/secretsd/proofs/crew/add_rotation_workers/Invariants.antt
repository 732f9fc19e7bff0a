use Rattle.std.proofs.Common.{◌≡◌, ◌+◌}
use Rattle.std.specs.Prelude.{All, vec_len}
use Rattle.sm_workers.specs.Workers.{IsFresh}
use Rattle.secretsd.proofs.crew.add_rotation_workers.Given as goal

-- as many workers were added as the number says, and all have still to begin
abbrev pub invariant-loop-number : goal.invariant-loop-number
invariant-loop-number g l = record {
  all : All IsFresh l.workers.items;
  long : vec_len l.workers ≡ vec_len l.initial.workers + l.number;
}
