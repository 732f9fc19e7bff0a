use Rattle.std.proofs.lemmas.Result.{IfOk-weaker, IfErr-weaker}
use Rattle.sm_store.proofs.OpenedRuns.{journal_refused, bodies_refused, any_moment, no_fault, reads_held, gate_is, made_new, is_opened}
use Rattle.sm_store.proofs.open.open_named.Goals as goal

pub returns-in-Err-clause-refused : goal.returns-in-Err-clause-refused
returns-in-Err-clause-refused g c =
    journal_refused g.D.Disk c.args.file c.args.disk c.in-Err.refused c.in-Err.ensures.refused

pub returns-in-Ok-clause-opened : goal.returns-in-Ok-clause-opened
returns-in-Ok-clause-opened g c =
    IfOk-weaker c.open_over.result _ _
    (λ opened over. is_opened g.D.Disk c.args.file c.args.disk c.in-Ok.journal _ c.in-Ok.ensures.any_moment
    c.in-Ok.ensures.no_other c.in-Ok.ensures.list opened over c.args.limit c.requires.two c.requires.named
    c.in-Ok.ensures.opened)
    c.open_over.ensures.opened

pub returns-in-Ok-clause-file : goal.returns-in-Ok-clause-file
returns-in-Ok-clause-file g c =
    IfOk-weaker c.open_over.result _ _ (λ opened over. (over.in_file, over.loads.file_is)) c.open_over.ensures.opened

pub returns-in-Ok-clause-found : goal.returns-in-Ok-clause-found
returns-in-Ok-clause-found g c =
    IfOk-weaker c.open_over.result _ _
    (λ opened over. reads_held g.D.Disk c.args.file c.args.disk c.in-Ok.journal _ c.in-Ok.ensures.any_moment
    c.in-Ok.ensures.no_other c.in-Ok.ensures.list opened over)
    c.open_over.ensures.opened

pub returns-in-Ok-clause-gate : goal.returns-in-Ok-clause-gate
returns-in-Ok-clause-gate g c =
    IfOk-weaker c.open_over.result _ _
    (λ opened over. gate_is g.D.Disk c.args.file c.args.disk c.in-Ok.journal _ c.in-Ok.ensures.any_moment
    c.in-Ok.ensures.no_other c.in-Ok.ensures.list opened over)
    c.open_over.ensures.opened

pub returns-in-Ok-clause-whole : goal.returns-in-Ok-clause-whole
returns-in-Ok-clause-whole g c =
    IfOk-weaker c.open_over.result _ _
    (λ opened over. made_new g.D.Disk c.args.file c.args.disk c.in-Ok.journal _ c.in-Ok.ensures.any_moment
    c.in-Ok.ensures.no_other c.in-Ok.ensures.list opened over c.in-Ok.ensures.whole)
    c.open_over.ensures.opened

pub returns-in-Ok-clause-any_moment : goal.returns-in-Ok-clause-any_moment
returns-in-Ok-clause-any_moment g c =
    IfOk-weaker c.open_over.result _ _
    (λ opened over. any_moment g.D.Disk c.args.file c.args.disk c.in-Ok.journal _ c.in-Ok.ensures.any_moment
    c.in-Ok.ensures.no_other c.in-Ok.ensures.list opened over)
    c.open_over.ensures.opened

pub returns-in-Ok-clause-no_other : goal.returns-in-Ok-clause-no_other
returns-in-Ok-clause-no_other g c =
    IfOk-weaker c.open_over.result _ _
    (λ opened over. no_fault g.D.Disk c.args.file c.args.disk c.in-Ok.journal _ c.in-Ok.ensures.any_moment
    c.in-Ok.ensures.no_other c.in-Ok.ensures.list opened over)
    c.open_over.ensures.opened

pub returns-in-Ok-clause-refused : goal.returns-in-Ok-clause-refused
returns-in-Ok-clause-refused g c =
    IfErr-weaker c.open_over.result _ _
    (λ refused why. bodies_refused g.D.Disk c.args.file c.args.disk c.in-Ok.journal _ c.in-Ok.ensures.any_moment
    c.in-Ok.ensures.no_other c.in-Ok.ensures.list refused why)
    c.open_over.ensures.refused
