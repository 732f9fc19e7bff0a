use Rattle.std.proofs.Common.{refl, ◌∙◌, ap}
use Rattle.sm_disk.specs.Steps.{Same}
use Rattle.sm_disk.specs.Memory.{memory_sight}
use Rattle.sm_disk.proofs.Kept.{goes_stay}
use Rattle.sm_disk.proofs.memory.MemoryDisk.look.Goals as goal

pub returns-then-begin-clause-crash : goal.returns-then-begin-clause-crash
returns-then-begin-clause-crash c = goes_stay Same _ _ (ap memory_sight c.fail.ensures.fault
    ∙ ap memory_sight c.begin.ensures.made) (λ c file. refl)

pub returns-in-Ok-clause-crash : goal.returns-in-Ok-clause-crash
returns-in-Ok-clause-crash c = goes_stay Same _ _ (ap memory_sight c.begin.ensures.made) (λ c file. refl)

pub returns-in-Err-clause-crash : goal.returns-in-Err-clause-crash
returns-in-Err-clause-crash c = goes_stay Same _ _ (ap memory_sight c.fail-in-Err.ensures.fault
    ∙ ap memory_sight c.begin.ensures.made) (λ c file. refl)
