use Rattle.std.proofs.Common.{◌≡◌, ◌≤◌, take, vec_capacity}
use Rattle.sm_account.specs.Accounts.{doors}
use Rattle.sm_drive.specs.Askings.{AsksIn, askings}
use Rattle.sm_drive.specs.Turns.{InTurn}
use Rattle.sm_drive.proofs.DriveLemmas.{GoneOn}
use Rattle.sm_drive.proofs.running.go_on.Given as goal

abbrev pub invariant-loop-call : goal.invariant-loop-call
invariant-loop-call g l = record {
  gone : GoneOn g.D.Disk g.R.Rotator l.fn.start l.calls l.call-index l.outcomes.items (vec_capacity l.outcomes) l.run;
  asked : InTurn AsksIn (take l.call-index l.calls) l.outcomes.items
      (askings g.R.Rotator l.initial.rotator l.fn.start.verdicts) (askings g.R.Rotator l.rotator l.run.verdicts);
  one_door : doors l.fn.start.account ≡ 1 → doors l.run.account ≡ 1;
  later : g.R.Rotator.faults l.initial.rotator ≤ g.R.Rotator.faults l.rotator;
}
