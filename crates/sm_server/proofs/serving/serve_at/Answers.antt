use Rattle.sm_server.proofs.ServedLemmas.{ends_closed}
use Rattle.sm_server.proofs.serving.serve_at.Goals as goal

pub returns-in-Ok : goal.returns-in-Ok
returns-in-Ok g c =
    let at = c.in-Ok.ensures.ran in
    record {
      ran = record {
        taken_stays = at.taken_stays;
        began_stays = at.began_stays;
        base_stays = at.base_stays;
        doors_stay = at.doors_stay;
        on_disk = c.invariants.ensures.on_disk;
        told = c.invariants.ensures.told;
        faults = c.invariants.ensures.faults;
        ends = ends_closed _ g.D.Disk c.args.people.now c.args.workers.now c.run_at.new.workers c.args.account
            c.in-Ok.account c.end_of_workers.result c.end_of_workers.ensures c.requires.empty at.base_stays
            at.closed at.left;
      };
    }
