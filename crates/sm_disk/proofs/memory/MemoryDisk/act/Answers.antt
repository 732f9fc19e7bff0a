use Rattle.sm_disk.proofs.Kept.{act_crash, act_done, act_tried}
use Rattle.sm_disk.proofs.memory.MemoryDisk.act.Goals as goal

pub returns-clause-done : goal.returns-clause-done
returns-clause-done c = act_done _ _ _ _ _ c.keep.ensures.counts c.keep.ensures.kept

pub returns-clause-tried : goal.returns-clause-tried
returns-clause-tried c = act_tried _ _ _ _ _ c.keep.ensures.counts c.keep.ensures.kept

pub returns-clause-crash : goal.returns-clause-crash
returns-clause-crash c = act_crash _ _ _ _ _ c.keep.ensures.counts c.keep.ensures.kept
