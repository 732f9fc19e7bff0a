use Rattle.sm_access.proofs.LawLemmas.{admits_by_policy, denial_names_first}
use Rattle.sm_access.proofs.laws.policies_admit_as_stated.Goals as goal

pub returns-clause-admits : goal.returns-clause-admits
returns-clause-admits c = admits_by_policy

pub returns-clause-first : goal.returns-clause-first
returns-clause-first c = denial_names_first
