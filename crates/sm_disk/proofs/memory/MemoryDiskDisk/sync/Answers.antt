use Rattle.sm_disk.proofs.Kept.{sync_done, sync_reads, sync_crash}
use Rattle.sm_disk.proofs.memory.MemoryDiskDisk.sync.Goals as goal

pub returns-clause-synced : goal.returns-clause-synced
returns-clause-synced c = sync_done _ _ _ _ c.act.ensures.counts c.act.ensures.kept

pub returns-clause-reads : goal.returns-clause-reads
returns-clause-reads c = sync_reads _ _ _ _ c.act.ensures.counts c.act.ensures.kept

pub returns-clause-crash : goal.returns-clause-crash
returns-clause-crash c = sync_crash _ _ _ _ c.act.ensures.counts c.act.ensures.kept
