use Rattle.sm_journal.proofs.OneProof.{recovers_prop, either_prop, ends_prop}
use Rattle.sm_journal.proofs.laws.each_has_one_proof.Goals as goal

pub returns-clause-recovers : goal.returns-clause-recovers
returns-clause-recovers c = recovers_prop

pub returns-clause-either : goal.returns-clause-either
returns-clause-either c = either_prop

pub returns-clause-ends : goal.returns-clause-ends
returns-clause-ends c = ends_prop
