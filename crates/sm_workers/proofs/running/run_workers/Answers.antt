use denote.Param.{param}
use denote.Exit as exits
use denote.Param.Send.{arg_send, param_send, sendable}
use Rattle.sm_account.specs.contracts.account.Account as account
use Rattle.sm_account.specs.contracts.storied.Opened as opened
use Rattle.sm_account.specs.contracts.storied.AccountStoried.TheImpl as story
use Rattle.sm_model.specs.contracts.entry.Mark as mark
use Rattle.sm_lock.proofs.gate.Gate.TheSendSync as gate
use Rattle.sm_workers.proofs.worker.WorkerBy.TheSendSync as worker
use Rattle.sm_account.specs.Accounts.{base}
use Rattle.sm_lock.specs.Handles.{built_with}
use Rattle.sm_workers.specs.Views.{views_by}
use Rattle.sm_workers.proofs.RunLemmas.{all_have, all_ready, all_worked, none_left}
use Rattle.sm_workers.proofs.SendLemmas.{account_send}
use Rattle.sm_workers.proofs.running.run_workers.Goals as goal

pub run_all-requires-send-J : goal.run_all-requires-send-J
run_all-requires-send-J g c κs within =
    let b = c.type_bounds in
    let it = worker.the_send (param 0 g.row.E) (param 1 g.row.C) (param 2 g.row.W) (param 4 g.row.R)
    (account.the_row (param 3 g.row.D) (param 4 g.row.R) g.D.Disk g.R.Rotator) (opened.the_row (param 3 g.row.D))
    mark.the_row (story.ghosts (param 3 g.row.D) (param 4 g.row.R) g.D.Disk story.no_dict g.R.Rotator story.no_dict)
    b.send-E b.send-C b.send-W b.send-R
    (account_send (param 3 g.row.D) (param 4 g.row.R) g.D.Disk g.R.Rotator b.send-D) in
    param_send 0 _ (arg_send _ exits.no _ it)

pub run_all-requires-sync-J-Gate : goal.run_all-requires-sync-J-Gate
run_all-requires-sync-J-Gate g c κs within =
    let it = gate.the_sync (account.the_row (param 3 g.row.D) (param 4 g.row.R) g.D.Disk g.R.Rotator)
    (opened.the_row (param 3 g.row.D)) mark.the_row
    (story.ghosts (param 3 g.row.D) (param 4 g.row.R) g.D.Disk story.no_dict g.R.Rotator story.no_dict)
    (account_send (param 3 g.row.D) (param 4 g.row.R) g.D.Disk g.R.Rotator c.type_bounds.send-D) in
    search (sendable, it) depth 20

pub run_all-requires-clause-ready : goal.run_all-requires-clause-ready
run_all-requires-clause-ready g c κs within =
    let gave = c.give-room in
    all_ready c.args.gate.now c.args.passes c.args.workers.now gave.new.workers c.requires.many gave.ensures.many
    c.requires.gate c.requires.fresh gave.ensures.given

pub take_back-requires-clause-has : goal.take_back-requires-clause-has
take_back-requires-clause-has g c =
    let ran = c.run_all in
    all_have (views_by g.E.Edge g.E.C.Source g.E.C.Sink g.C.Clock g.W.Words g.R.Rotator) c.args.people.now
    (base (built_with c.args.gate.now)) c.args.gate.now c.give-room.new.workers ran.new.jobs ran.ensures.many
    ran.ensures.worked

pub returns-clause-worked : goal.returns-clause-worked
returns-clause-worked g c =
    let gave = c.give-room in
    let ran = c.run_all in
    let took = c.take_back in
    all_worked (views_by g.E.Edge g.E.C.Source g.E.C.Sink g.C.Clock g.W.Words g.R.Rotator) c.args.people.now
    (base (built_with c.args.gate.now)) c.args.gate.now c.args.passes took.result c.args.workers.now gave.new.workers
    ran.new.jobs took.new.workers gave.ensures.many ran.ensures.many gave.ensures.given ran.ensures.worked
    took.ensures.taken

pub returns-clause-left : goal.returns-clause-left
returns-clause-left g c =
    let took = c.take_back in
    none_left took.result c.run_all.new.jobs took.new.workers took.ensures.many.0 took.ensures.many.1
    took.ensures.taken
