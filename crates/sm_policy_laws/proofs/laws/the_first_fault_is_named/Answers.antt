use Rattle.sm_policy_laws.proofs.PolicyLemmas.{first, least, least_of_statement}
use Rattle.sm_policy_laws.proofs.laws.the_first_fault_is_named.Goals as goal

pub returns-clause-first : goal.returns-clause-first
returns-clause-first c = first

pub returns-clause-least : goal.returns-clause-least
returns-clause-least c = least

pub returns-clause-least_of_statement : goal.returns-clause-least_of_statement
returns-clause-least_of_statement c = least_of_statement
