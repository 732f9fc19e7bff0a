use Rattle.std.proofs.Common.{refl}
use Rattle.sm_drive.proofs.step.with_invariants.Goals as goal

pub returns-clause-same : goal.returns-clause-same
returns-clause-same g c = refl

pub returns-clause-stands : goal.returns-clause-stands
returns-clause-stands g c = c.stand.ensures
