use Rattle.std.proofs.Common.{subst}
use Rattle.sm_account.specs.Accounts.{base}
use Rattle.sm_lock.specs.Handles.{built_with, IsIn}
use Rattle.sm_workers.specs.Views.{views_by}
use Rattle.sm_workers.proofs.WorkerLemmas.{one_only, works_with_pass}
use Rattle.sm_workers.proofs.working.work.Goals as goal

pub returns : goal.returns
returns g c =
    let gate = c.args.gate.now in
    let worker = c.args.worker.now in
    let out = c.take_out-pass in
    let done = c.do_task-pass in
    let ready = c.requires in
    works_with_pass (views_by g.E.Edge g.E.C.Source g.E.C.Sink g.C.Clock g.W.Words g.R.Rotator) c.args.people.now
    (base (built_with gate)) gate out.result done.result.pass
    (subst (λ p. IsIn gate p) (one_only ready.pass out.result worker.pass ready.has out.ensures.pass) ready.belongs)
    done.ensures.gate done.ensures.number worker out.new.self c.put_in.new.self done.new.task done.new.clock
    done.new.words done.result.failed out.ensures.pass out.ensures.left c.put_in.ensures done.ensures.did
    done.ensures.ends
