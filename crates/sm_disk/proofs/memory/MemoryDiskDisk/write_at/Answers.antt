use Rattle.std.proofs.Common.{ℕ, List, length, ◌∙◌, ap, subst}
use Rattle.std.specs.Prelude.{OnOk, OnErr}
use Rattle.sm_disk.specs.Steps.{OnFile, Holds, Torn, Follows, Goes}
use Rattle.sm_disk.specs.Laws.{torn_not}
use Rattle.sm_disk.specs.Memory.{memory_sight}
use Rattle.sm_disk.proofs.Kept.{reads_stay, goes_stay, on_file, memory_tells}
use Rattle.sm_disk.proofs.memory.MemoryDiskDisk.write_at.Goals as goal

pub returns-in-Ok-clause-written : goal.returns-in-Ok-clause-written
returns-in-Ok-clause-written c =
    subst (λ (p : List ℕ). OnOk c.act.result
    (Follows (OnFile c.args.file (Holds c.args.at p)) (memory_sight c.args.self.now).reads
    (memory_sight c.act.new.self).reads)) c.in-Ok.ensures c.act.ensures.done

pub returns-in-Ok-clause-tried : goal.returns-in-Ok-clause-tried
returns-in-Ok-clause-tried c =
    subst (λ (p : List ℕ). OnErr c.act.result
    (Follows (OnFile c.args.file (Torn c.args.at (length p))) (memory_sight c.args.self.now).reads
    (memory_sight c.act.new.self).reads)) c.in-Ok.ensures c.act.ensures.tried

pub returns-in-Ok-clause-crash : goal.returns-in-Ok-clause-crash
returns-in-Ok-clause-crash c =
    subst (λ (p : List ℕ). Goes (OnFile c.args.file (Torn c.args.at (length p))) (memory_sight c.args.self.now)
    (memory_sight c.act.new.self)) c.in-Ok.ensures c.act.ensures.crash

pub returns-in-Err-clause-tried : goal.returns-in-Err-clause-tried
returns-in-Err-clause-tried c = reads_stay _ _ _ (ap memory_sight c.fail.ensures.fault
    ∙ ap memory_sight c.begin.ensures.made) (on_file c.args.file _ (torn_not c.args.at _))

pub returns-in-Err-clause-crash : goal.returns-in-Err-clause-crash
returns-in-Err-clause-crash c = goes_stay _ _ _ (ap memory_sight c.fail.ensures.fault
    ∙ ap memory_sight c.begin.ensures.made) (on_file c.args.file _ (torn_not c.args.at _))

pub returns-in-Ok-clause-tells : goal.returns-in-Ok-clause-tells
returns-in-Ok-clause-tells c = memory_tells c.args.self.now c.act.new.self

pub returns-in-Err-clause-tells : goal.returns-in-Err-clause-tells
returns-in-Err-clause-tells c = memory_tells c.args.self.now c.fail.new.self
