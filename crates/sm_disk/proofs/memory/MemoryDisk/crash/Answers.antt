use Rattle.std.proofs.lemmas.Result.{IfOk-weaker}
use Rattle.sm_disk.proofs.Crashes.{crashed_image}
use Rattle.sm_disk.proofs.memory.MemoryDisk.crash.Goals as goal

pub returns-clause-image : goal.returns-clause-image
returns-clause-image c =
    IfOk-weaker c.new.result _ _
    (λ disk made. crashed_image c.args.fill c.args.self.now _ _ _ _ disk made c.in_ok-journal_0.ensures
    c.in_ok-journal_1.ensures c.in_ok-root.ensures) c.new.ensures
