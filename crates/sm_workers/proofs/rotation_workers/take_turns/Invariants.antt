use Rattle.std.proofs.Common.{◌≡◌}
use Rattle.sm_account.specs.Accounts.{base}
use Rattle.sm_lock.specs.Handles.{built_with, number, seen, IsIn}
use Rattle.sm_session.specs.Views.{local_state_by}
use Rattle.sm_workers.proofs.RotationWorkerLemmas.{SoFar}
use Rattle.sm_workers.proofs.rotation_workers.take_turns.Given as goal

-- the turns so far were taken under the seat that the pass has had all along
abbrev pub invariant-loop : goal.invariant-loop
invariant-loop g l = record {
  gate : IsIn l.gate l.pass;
  numbered : number l.pass ≡ number l.initial.pass;
  so_far : SoFar g.R.Rotator.replies (record { base = base (built_with l.gate); seat = number l.initial.pass })
      (record {
        own = local_state_by g.C.Clock g.W.Words (seen l.initial.pass) l.initial.clock l.initial.words;
        rotator = g.R.Rotator.faults l.initial.rotator;
      })
      (record {
        own = local_state_by g.C.Clock g.W.Words (seen l.pass) l.clock l.words;
        rotator = g.R.Rotator.faults l.rotator;
      });
}
