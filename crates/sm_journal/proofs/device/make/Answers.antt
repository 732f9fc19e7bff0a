use Rattle.std.proofs.Common.{[]}
use Rattle.sm_journal.specs.Records.{Short, Whole}
use Rattle.sm_journal.proofs.Settings.{stays, sync_has}
use Rattle.sm_journal.proofs.device.make.Goals as goal

pub returns-in_err-sync-clause-run : goal.returns-in_err-sync-clause-run
returns-in_err-sync-clause-run g c images =
    (stays c.args.file (g.D.Disk.sight c.args.disk.now) (λ _. Short) _ _
    (record { leaves = c.begin.ensures.short images; reading = λ s read. tt }) c.sync.ensures.crash
    c.sync.ensures.reads).leaves

pub returns-clause-run : goal.returns-clause-run
returns-clause-run g c images =
    (stays c.args.file (g.D.Disk.sight c.args.disk.now) (λ _. Short) _ _
    (record { leaves = c.begin.ensures.short images; reading = λ s read. tt }) c.sync.ensures.crash
    c.sync.ensures.reads).leaves

pub returns-clause-made : goal.returns-clause-made
returns-clause-made g c = sync_has c.args.file (Whole c.args.format []) _ _ c.sync.ensures.reads
    c.in_ok-sync.ensures.synced
    c.in_ok-begin.ensures.making.reads
