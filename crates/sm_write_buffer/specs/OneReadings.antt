-- What a read gives of a disk in memory.
use Rattle.std.specs.Prelude.{◌≡◌, ℕ}
use Rattle.std.proofs.Common.{sym, ◌∙◌}
use Rattle.sm_disk.specs.Sight.{Image}
use Rattle.sm_disk.specs.Memory.{memory_sight}
use Rattle.sm_disk.specs.declared.memory.MemoryDisk.{MemoryDisk}

pub memory_reads_one : (disk : MemoryDisk) (r s : Image) → (memory_sight disk).reads r → (memory_sight disk).reads s
    → (file : ℕ) → r file ≡ s file
memory_reads_one disk r s first second file = first file ∙ sym (second file)
