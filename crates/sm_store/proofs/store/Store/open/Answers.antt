use Rattle.std.proofs.Common.{refl, subst}
use Rattle.std.proofs.lemmas.Result.{IfOk-weaker, IfErr-weaker}
use Rattle.sm_journal.specs.Records.{Short}
use Rattle.sm_store.specs.Stores.{disk_of}
use Rattle.sm_store.proofs.NamedRuns.{lists_stay, open_refused}
use Rattle.sm_store.proofs.store.Store.open.Goals as goal

pub returns-in-Ok-clause-whole : goal.returns-in-Ok-clause-whole
returns-in-Ok-clause-whole g c =
    IfOk-weaker c.open_named.result _ _
    (λ opened whole s read short. whole s (c.named_file.ensures.reads.still s read)
    (subst (λ n. Short (s n)) (c.in-Ok.ensures.named s read) short))
    c.open_named.ensures.whole

pub returns-in-Ok-clause-any_moment : goal.returns-in-Ok-clause-any_moment
returns-in-Ok-clause-any_moment g c =
    IfOk-weaker c.open_named.result _ _
    (λ opened run. lists_stay c.in-Ok.file (g.D.Disk.sight c.args.disk) (g.D.Disk.sight c.named_file.new.disk)
    (g.D.Disk.sight (disk_of opened.0)) c.named_file.ensures.run c.in-Ok.ensures.all run)
    c.open_named.ensures.any_moment

pub returns-in-Ok-clause-refused : goal.returns-in-Ok-clause-refused
returns-in-Ok-clause-refused g c =
    IfErr-weaker c.open_named.result _ _
    (λ refused why. open_refused g.D.Disk c.in-Ok.file c.args.disk c.named_file.new.disk c.named_file.ensures.run
    c.named_file.ensures.reads c.in-Ok.ensures.all c.in-Ok.ensures.named (c.in-Ok.ensures.cause.no_other refl)
    refused why)
    c.open_named.ensures.refused
