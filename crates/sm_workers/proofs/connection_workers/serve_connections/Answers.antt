use Rattle.std.proofs.Common.{refl, ◌∙◌}
use Rattle.sm_account.specs.Accounts.{base}
use Rattle.sm_lock.specs.Handles.{built_with, number, seen}
use Rattle.sm_session.specs.Views.{sides_by, local_state_by}
use Rattle.sm_workers.specs.Views.{edge_by}
use Rattle.sm_workers.proofs.ConnectionWorkerLemmas.{left_connection_worker, so_far_first, visited}
use Rattle.sm_workers.proofs.connection_workers.serve_connections.Goals as goal

pub loop-init : goal.loop-init
loop-init g c = record {
  gate = c.requires;
  numbered = refl;
  so_far = so_far_first (sides_by g.E.C.Source g.E.C.Sink) c.args.people.now
      (record { base = base (built_with c.args.gate.now); seat = number c.args.pass })
      (edge_by g.E.Edge c.args.edge.now)
      (local_state_by g.C.Clock g.W.Words (seen c.args.pass) c.args.clock.now c.args.words.now);
}

pub loop-preserved-in-Conn : goal.loop-preserved-in-Conn
loop-preserved-in-Conn g c =
    let i = c.loop.invariant in
    let after = c.visit-pass in
    let accepted = c.in-Conn.ensures in
    record {
      gate = after.ensures.gate;
      numbered = ◌∙◌ {b = number c.loop.pass} after.ensures.number i.numbered;
      so_far = visited (sides_by g.E.C.Source g.E.C.Sink) c.args.people.now (base (built_with c.args.gate.now))
          (number c.loop.pass) (number c.args.pass) i.numbered (edge_by g.E.Edge c.args.edge.now)
          (edge_by g.E.Edge c.loop.edge) (edge_by g.E.Edge after.new.edge)
          (local_state_by g.C.Clock g.W.Words (seen c.args.pass) c.args.clock.now c.args.words.now)
          (local_state_by g.C.Clock g.W.Words (seen c.loop.pass) c.loop.clock c.loop.words)
          (local_state_by g.C.Clock g.W.Words (seen after.result) after.new.clock after.new.words) i.so_far
          c.in-Conn.conn (edge_by g.E.Edge c.accept.new.self) accepted.first accepted.handed accepted.back
          accepted.later after.ensures.left after.ensures.handed after.ensures.faults after.ensures.visits;
    }

pub returns-in-End-clause-did : goal.returns-in-End-clause-did
returns-in-End-clause-did g c =
    let i = c.loop.invariant in
    let accepted = c.in-End.ensures in
    left_connection_worker (sides_by g.E.C.Source g.E.C.Sink) c.args.people.now (base (built_with c.args.gate.now))
    (number c.loop.pass) (number c.args.pass) i.numbered (edge_by g.E.Edge c.args.edge.now)
    (edge_by g.E.Edge c.loop.edge) (edge_by g.E.Edge c.accept.new.self)
    (local_state_by g.C.Clock g.W.Words (seen c.args.pass) c.args.clock.now c.args.words.now)
    (local_state_by g.C.Clock g.W.Words (seen c.loop.pass) c.loop.clock c.loop.words)
    (local_state_by g.C.Clock g.W.Words (seen c.close_door.result) c.loop.clock c.loop.words) i.so_far
    accepted.first accepted.handed accepted.back accepted.later c.close_door.ensures.seen refl

pub returns-in-Failed-clause-did : goal.returns-in-Failed-clause-did
returns-in-Failed-clause-did g c =
    let i = c.loop.invariant in
    let accepted = c.in-Failed.ensures in
    left_connection_worker (sides_by g.E.C.Source g.E.C.Sink) c.args.people.now (base (built_with c.args.gate.now))
    (number c.loop.pass) (number c.args.pass) i.numbered (edge_by g.E.Edge c.args.edge.now)
    (edge_by g.E.Edge c.loop.edge) (edge_by g.E.Edge c.accept.new.self)
    (local_state_by g.C.Clock g.W.Words (seen c.args.pass) c.args.clock.now c.args.words.now)
    (local_state_by g.C.Clock g.W.Words (seen c.loop.pass) c.loop.clock c.loop.words)
    (local_state_by g.C.Clock g.W.Words (seen c.close_door-in-Failed.result) c.loop.clock c.loop.words) i.so_far
    accepted.first accepted.handed accepted.back accepted.later c.close_door-in-Failed.ensures.seen refl
