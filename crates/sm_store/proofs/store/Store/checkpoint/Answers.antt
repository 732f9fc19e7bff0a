use Rattle.std.proofs.Common.{◌≡◌, ◌∙◌, ap, subst}
use Rattle.std.proofs.lemmas.Result.{IfErr-weaker}
use Rattle.sm_disk.specs.OneFile.{Anyhow, Leaves}
use Rattle.sm_journal.specs.Journals as journals
use Rattle.sm_store.specs.Held.{only, AreTwo}
use Rattle.sm_store.specs.Stores.{disk_of, disk_in}
use Rattle.sm_store.proofs.HeldRuns.{unmade, unrooted, checkpointed, file_holds, sealed_holds, both_ok}
use Rattle.sm_store.proofs.store.Store.checkpoint.Goals as goal

pub returns-in-Ok-clause-any_moment : goal.returns-in-Ok-clause-any_moment
returns-in-Ok-clause-any_moment g c =
    let store = c.args.self in
    let base = c.args.base.now in
    let other = c.other_than-other.result in
    let mid = g.D.Disk.sight (journals.disk_of c.in-Ok.journal) in
    let two : AreTwo store.file other =
    subst (λ file. AreTwo file other) c.parts-journal.ensures.file c.other_than-other.ensures.two in
    let disk_is : c.close.result ≡ disk_of store =
    c.close.ensures.disk ∙ ap journals.disk_of c.parts-journal.ensures.journal in
    let run = subst (λ disk. Leaves other Anyhow Anyhow (g.D.Disk.sight disk) mid) disk_is c.in-Ok.ensures.run in
    let sealed = sealed_holds other _ base c.in-Ok.journal c.requires.spelled c.in-Ok.ensures.format
    c.in-Ok.ensures.opened in
    both_ok c.name_over.result
    (λ after rooted all h holds. checkpointed h (only base) store.file other two (g.D.Disk.sight (disk_of store)) mid
    holds.named (file_holds store h holds) run (g.D.Disk.sight (disk_of after)) sealed rooted all)
    c.name_over.ensures.run c.name_over.ensures.named

pub returns-in-Ok-clause-left : goal.returns-in-Ok-clause-left
returns-in-Ok-clause-left g c =
    let store = c.args.self in
    let base = c.args.base.now in
    let other = c.other_than-other.result in
    let mid = g.D.Disk.sight (journals.disk_of c.in-Ok.journal) in
    let two : AreTwo store.file other =
    subst (λ file. AreTwo file other) c.parts-journal.ensures.file c.other_than-other.ensures.two in
    let disk_is : c.close.result ≡ disk_of store =
    c.close.ensures.disk ∙ ap journals.disk_of c.parts-journal.ensures.journal in
    let run = subst (λ disk. Leaves other Anyhow Anyhow (g.D.Disk.sight disk) mid) disk_is c.in-Ok.ensures.run in
    let sealed = sealed_holds other _ base c.in-Ok.journal c.requires.spelled c.in-Ok.ensures.format
    c.in-Ok.ensures.opened in
    IfErr-weaker c.name_over.result _ _
    (λ refused rooted h holds. unrooted h (only base) store.file other two (g.D.Disk.sight (disk_of store)) mid
    holds.named (file_holds store h holds) run (g.D.Disk.sight (disk_in refused)) sealed rooted)
    c.name_over.ensures.run_err

pub returns-in-Err-clause-left : goal.returns-in-Err-clause-left
returns-in-Err-clause-left g c h holds =
    let store = c.args.self in
    let other = c.other_than-other.result in
    let now = g.D.Disk.sight (disk_in c.in-Err.refused) in
    let two : AreTwo store.file other =
    subst (λ file. AreTwo file other) c.parts-journal.ensures.file c.other_than-other.ensures.two in
    let disk_is : c.close.result ≡ disk_of store =
    c.close.ensures.disk ∙ ap journals.disk_of c.parts-journal.ensures.journal in
    unmade h (only c.args.base.now) store.file other two (g.D.Disk.sight (disk_of store)) now holds.named
    (file_holds store h holds)
    (subst (λ disk. Leaves other Anyhow Anyhow (g.D.Disk.sight disk) now) disk_is c.in-Err.ensures.run_err)
