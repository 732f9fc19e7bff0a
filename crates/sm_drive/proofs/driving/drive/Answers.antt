use Rattle.std.proofs.Common.{List, [], IfOk, IfErr, subst}
use Rattle.sm_drive.specs.Askings.{AsksIn, askings}
use Rattle.sm_drive.specs.Disks.{GoesOver, disks_of}
use Rattle.sm_drive.specs.Drives.{Drives}
use Rattle.sm_drive.specs.Openings.{TellsAtRestarts}
use Rattle.sm_drive.specs.Refused.{IsStopped}
use Rattle.sm_drive.specs.Turns.{InTurn}
use Rattle.sm_drive.specs.declared.call.Call.{Call}
use Rattle.sm_drive.proofs.DriveLemmas.{wanting}
use Rattle.sm_drive.proofs.driving.drive.Goals as goal

pub returns-in-Ok-clause-ran : goal.returns-in-Ok-clause-ran
returns-in-Ok-clause-ran g c =
    subst (λ (l : List Call). IfOk c.run_over.result (λ driven. TellsAtRestarts l (g.D.Disk.sight c.args.disk)
    → Drives g.D.Disk g.R.Rotator (g.D.Disk.sight c.args.disk) l driven)) c.as_slice.ensures c.run_over.ensures.ran

pub returns-in-Ok-clause-over : goal.returns-in-Ok-clause-over
returns-in-Ok-clause-over g c =
    subst (λ (l : List Call). IfOk c.run_over.result
    (λ driven. GoesOver g.D.Disk c.args.disk l driven.outcomes (disks_of driven.account))) c.as_slice.ensures
    c.run_over.ensures.over

pub returns-in-Ok-clause-asked : goal.returns-in-Ok-clause-asked
returns-in-Ok-clause-asked g c =
    subst (λ (l : List Call). IfOk c.run_over.result (λ driven. InTurn AsksIn l driven.outcomes
    (askings g.R.Rotator c.args.rotator.now []) (askings g.R.Rotator c.run_over.new.rotator driven.verdicts)))
    c.as_slice.ensures c.run_over.ensures.asked

pub returns-in-Ok-clause-refused : goal.returns-in-Ok-clause-refused
returns-in-Ok-clause-refused g c =
    subst (λ (l : List Call). IfErr c.run_over.result (IsStopped g.D.Disk g.R.Rotator.replies c.args.disk l))
    c.as_slice.ensures c.run_over.ensures.refused

pub returns-clause-refused : goal.returns-clause-refused
returns-clause-refused g c =
    wanting g.D.Disk g.R.Rotator.replies c.args.disk c.args.calls (g.met.D.Disk.only_now c.args.disk)
