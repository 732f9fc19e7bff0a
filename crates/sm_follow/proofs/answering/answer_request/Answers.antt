use Rattle.std.proofs.Common.{ap, arith}
use Rattle.sm_model.specs.declared.request.Request.{Request}
use Rattle.sm_session.specs.Answer.{Asked}
use Rattle.sm_follow.specs.Disks.{disk_in}
use Rattle.sm_follow.specs.InputTurns.{stopped_by}
use Rattle.sm_follow.proofs.TurnLemmas.{asks_judged, asks_stopped, moment_is, none_stopped}
use Rattle.sm_follow.proofs.answering.answer_request.Goals as goal

pub returns-in-StopReplicationToReplica-clause-comes : goal.returns-in-StopReplicationToReplica-clause-comes
returns-in-StopReplicationToReplica-clause-comes g c state stands =
    let asked : Asked = record { person = c.args.person.now; request = c.args.request.now } in
    asks_stopped (g.D.Disk.faults (disk_in c.args.follower)) state c.args.now.0 (record { 0 = c.max.result }) asked
    c.in-StopReplicationToReplica.stop.secret_id c.stop_replication.result
    (moment_is state c.args.follower c.args.now.0 c.last.result _ stands c.last.ensures.last c.max.ensures)
    (ap (λ (r : Request). stopped_by r) c.in-StopReplicationToReplica.is)
    (c.stop_replication.ensures.comes state stands)

pub returns-in_default : goal.returns-in_default
returns-in_default g c =
    let asked : Asked = record { person = c.args.person.now; request = c.args.request.now } in
    record {
      comes = λ state stands. asks_judged (g.D.Disk.faults (disk_in c.args.follower)) state c.args.follower
          c.args.now.0 (record { 0 = c.max.result }) asked c.answer.result c.say_judged-said.result stands
          (moment_is state c.args.follower c.args.now.0 c.last.result _ stands c.last.ensures.last c.max.ensures)
          (none_stopped c.args.request.now c.in_default.not-StopReplicationToReplica) c.answer.ensures.answer
          c.say_judged-said.ensures;
      sure = c.requires.sure;
      later = omega arith;
    }
