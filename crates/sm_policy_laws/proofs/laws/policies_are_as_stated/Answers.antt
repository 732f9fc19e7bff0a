use Rattle.sm_policy_laws.proofs.PolicyLemmas.{policies, one, tested}
use Rattle.sm_policy_laws.proofs.laws.policies_are_as_stated.Goals as goal

pub returns-clause-policies : goal.returns-clause-policies
returns-clause-policies c = policies

pub returns-clause-one : goal.returns-clause-one
returns-clause-one c = one

pub returns-clause-tested : goal.returns-clause-tested
returns-clause-tested c = tested
