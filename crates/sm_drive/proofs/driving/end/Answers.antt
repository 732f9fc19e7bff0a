use Rattle.std.proofs.Common.{List, ap}
use Rattle.sm_drive.specs.declared.outcome.Outcome.{Outcome}
use Rattle.sm_drive.proofs.DriveLemmas.{driven_of}
use Rattle.sm_drive.proofs.driving.end.Goals as goal

pub returns-clause-same : goal.returns-clause-same
returns-clause-same g c =
    ap (λ (outs : List Outcome). driven_of c.args.run.account outs c.args.run.verdicts) c.new.ensures

pub returns-clause-tail : goal.returns-clause-tail
returns-clause-tail g c = c.stand.ensures.on_disk
