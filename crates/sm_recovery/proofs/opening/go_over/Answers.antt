use Rattle.std.proofs.Common.{◌∙◌, ap, length, subst, sym}
use Rattle.std.proofs.lemmas.Result.{IfOk-weaker, IfErr-weaker}
use Rattle.sm_store.specs.Openings.{held_of}
use Rattle.sm_store.specs.Stores.{disk_of, format_of, IsOpened}
use Rattle.sm_store.specs.Held.{only}
use Rattle.sm_recovery.specs.Lawful.{made_of}
use Rattle.sm_recovery.proofs.TakingLemmas.{new_as, new_made, takes_found, takes_base, stays_back}
use Rattle.sm_recovery.proofs.opening.go_over.Goals as goal

pub returns-in-Ok-Some-clause-takes : goal.returns-in-Ok-Some-clause-takes
returns-in-Ok-Some-clause-takes g c =
    let new = sym c.in-Ok-Some.field-0-is
    ∙ new_as _ _ _ _ _ _ _ _ c.in-Ok-Some.ensures.base c.format.ensures c.len.ensures c.requires.made in
    IfOk-weaker c.replace.result _ _
    (λ opened said. takes_base c.args.store (held_of c.args.loaded) c.args.limit c.requires.opened opened
    (said.replayed_is ∙ c.requires.made) c.in-Ok-Some.base new
    (subst (λ limit. IsOpened limit (only c.in-Ok-Some.base) opened.store) c.requires.opened.under said.store)
    said.second said.taken said.replaced)
    c.replace.ensures.replaces

pub returns-in-Ok-Some-clause-any_moment : goal.returns-in-Ok-Some-clause-any_moment
returns-in-Ok-Some-clause-any_moment g c =
    let new = sym c.in-Ok-Some.field-0-is
    ∙ new_as _ _ _ _ _ _ _ _ c.in-Ok-Some.ensures.base c.format.ensures c.len.ensures c.requires.made in
    IfOk-weaker c.replace.result _ _
    (λ opened stays. stays (held_of c.args.loaded) c.requires.opened.holds
    (new_made (format_of c.args.store) c.args.limit (length c.args.loaded.entries) (made_of (held_of c.args.loaded))
    c.in-Ok-Some.base new))
    c.replace.ensures.any_moment

pub returns-in-Ok-Some-clause-stays : goal.returns-in-Ok-Some-clause-stays
returns-in-Ok-Some-clause-stays g c =
    let new = sym c.in-Ok-Some.field-0-is
    ∙ new_as _ _ _ _ _ _ _ _ c.in-Ok-Some.ensures.base c.format.ensures c.len.ensures c.requires.made in
    IfErr-weaker c.replace.result _ _
    (λ refused stays. stays (held_of c.args.loaded) c.requires.opened.holds
    (new_made (format_of c.args.store) c.args.limit (length c.args.loaded.entries) (made_of (held_of c.args.loaded))
    c.in-Ok-Some.base new))
    c.replace.ensures.stays

pub returns-in-Ok-None-clause-takes : goal.returns-in-Ok-None-clause-takes
returns-in-Ok-None-clause-takes g c =
    let new = sym c.in-Ok-None.field-0-is
    ∙ new_as _ _ _ _ _ _ _ _ c.in-Ok-None.ensures.base c.format.ensures c.len.ensures c.requires.made in
    takes_found c.args.store (held_of c.args.loaded) c.args.limit c.requires.opened c.opened_with.result
    (c.opened_with.ensures.replayed ∙ c.requires.made) new c.opened_with.ensures.store c.opened_with.ensures.taken
    c.opened_with.ensures.replaced

pub returns-in-Ok-None-clause-any_moment : goal.returns-in-Ok-None-clause-any_moment
returns-in-Ok-None-clause-any_moment g c =
    stays_back g.D.Disk (disk_of c.args.store) (disk_of c.opened_with.result.store)
    (g.met.D.Disk.only_now (disk_of c.args.store)) (ap disk_of c.opened_with.ensures.store)

pub returns-in-Ok-None-clause-no_other : goal.returns-in-Ok-None-clause-no_other
returns-in-Ok-None-clause-no_other g c =
    ap (λ store. g.D.Disk.faults (disk_of store)) c.opened_with.ensures.store

pub returns-in-Err-clause-stopped : goal.returns-in-Err-clause-stopped
returns-in-Err-clause-stopped g c = ap g.D.Disk.faults c.close.ensures.disk

pub returns-in-Err-clause-stays : goal.returns-in-Err-clause-stays
returns-in-Err-clause-stays g c =
    stays_back g.D.Disk (disk_of c.args.store) c.close.result (g.met.D.Disk.only_now (disk_of c.args.store))
    c.close.ensures.disk
