use Rattle.std.proofs.Common.{refl}
use Rattle.sm_server.proofs.ServedLemmas.{opened_over, unopened_over}
use Rattle.sm_server.proofs.serving.serve_over.Goals as goal

pub returns-in-Ok : goal.returns-in-Ok
returns-in-Ok g c = record {
  ran = opened_over _ g.D.Disk c.args.people.now c.args.workers.now c.serve_at-status.new.workers c.args.disk _
      c.in-Ok.account c.serve_at-status.result.1 c.serve_at-status.result.0 c.connection_workers_of.ensures
      c.in-Ok.ensures.opened c.in-Ok.ensures.taken c.serve_at-status.ensures.ran;
}

pub returns-in-Err : goal.returns-in-Err
returns-in-Err g c = record {
  ran = (
    unopened_over g.D.Disk c.args.disk c.in-Err.refused c.end_unopened-status.result.0 c.end_unopened-status.result.1
        c.in-Err.ensures.refused c.end_unopened-status.ensures.status c.end_unopened-status.ensures.disk,
    refl,
  );
}
