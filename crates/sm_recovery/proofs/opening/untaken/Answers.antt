use Rattle.std.proofs.Common.{ap}
use Rattle.sm_recovery.proofs.TakingLemmas.{stays_back}
use Rattle.sm_store.specs.Stores.{disk_of}
use Rattle.sm_recovery.proofs.opening.untaken.Goals as goal

pub returns-in-Damaged : goal.returns-in-Damaged
returns-in-Damaged g c h told = (c.close.ensures.disk, rw c.in-Damaged.is at told)

pub returns-in-Memory : goal.returns-in-Memory
returns-in-Memory g c h told = (
  ap g.D.Disk.faults c.close-in-Memory.ensures.disk,
  stays_back g.D.Disk (disk_of c.args.store) c.close-in-Memory.result
      (g.met.D.Disk.only_now (disk_of c.args.store)) c.close-in-Memory.ensures.disk,
)
