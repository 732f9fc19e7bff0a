use Rattle.sm_disk.proofs.Kept.{memory_tells}
use Rattle.sm_disk.proofs.memory.MemoryDiskDisk.cut.Goals as goal

pub returns-clause-tells : goal.returns-clause-tells
returns-clause-tells c = memory_tells c.args.self.now c.act.new.self
