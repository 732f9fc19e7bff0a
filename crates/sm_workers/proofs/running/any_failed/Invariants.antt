use Rattle.std.proofs.Common.{take}
use Rattle.sm_workers.specs.Workers.{NoneFailed}
use Rattle.sm_workers.proofs.running.any_failed.Given as goal

-- none of those that were looked at failed
abbrev pub invariant-loop-worker : goal.invariant-loop-worker
invariant-loop-worker g l = NoneFailed (take l.worker-index l.workers)
