use Rattle.sm_recovery.proofs.FaultLemmas.{one_first_fault, lawful_has_none}
use Rattle.sm_recovery.proofs.laws.find_first_faults.Goals as goal

pub returns-clause-one : goal.returns-clause-one
returns-clause-one c = one_first_fault

pub returns-clause-none : goal.returns-clause-none
returns-clause-none c = lawful_has_none
