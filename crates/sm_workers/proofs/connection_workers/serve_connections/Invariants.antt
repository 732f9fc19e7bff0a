use Rattle.std.proofs.Common.{◌≡◌}
use Rattle.sm_account.specs.Accounts.{base}
use Rattle.sm_lock.specs.Handles.{built_with, number, seen, IsIn}
use Rattle.sm_session.specs.Views.{sides_by, local_state_by}
use Rattle.sm_workers.specs.Views.{edge_by}
use Rattle.sm_workers.proofs.ConnectionWorkerLemmas.{SoFar}
use Rattle.sm_workers.proofs.connection_workers.serve_connections.Given as goal

-- the connections that were handed out so far were visited, under the seat that the pass has had all along
abbrev pub invariant-loop : goal.invariant-loop
invariant-loop g l = record {
  gate : IsIn l.gate l.pass;
  numbered : number l.pass ≡ number l.initial.pass;
  so_far : SoFar (sides_by g.E.C.Source g.E.C.Sink) l.people
      (record { base = base (built_with l.gate); seat = number l.initial.pass })
      (edge_by g.E.Edge l.initial.edge) (edge_by g.E.Edge l.edge)
      (local_state_by g.C.Clock g.W.Words (seen l.initial.pass) l.initial.clock l.initial.words)
      (local_state_by g.C.Clock g.W.Words (seen l.pass) l.clock l.words);
}
