use Rattle.std.proofs.Common.{length, refl, ◌∙◌, ap, arith}
use Rattle.sm_disk.specs.Calls.{replayed}
use Rattle.sm_disk.specs.Memory.{start_of}
use Rattle.sm_disk.proofs.memory.MemoryDiskDisk.read.Goals as goal

pub copy_from-requires : goal.copy_from-requires
copy_from-requires c =
    let disk = c.args.self.now in
    let fits = c.requires.place (λ file. replayed file disk.calls.items (start_of disk file)) (λ file. refl) in
    omega (arith, fits, ap length (c.as_slice.ensures.value ∙ c.in_ok-bytes.ensures.content))
