use Rattle.std.proofs.Common.{arith}
use Rattle.std.proofs.lemmas.Grind.{common_steps}
use Rattle.sm_io.proofs.Parts.{drop-parts}
use Rattle.sm_io.proofs.memory_source.MemorySourceSource.take.Goals as goal

pub returns-clause-bytes : goal.returns-clause-bytes
returns-clause-bytes c =
    let parts = drop-parts c.self.inside.bytes c.self.inside.at c.min-count.result in
    grind (arith, common_steps)
