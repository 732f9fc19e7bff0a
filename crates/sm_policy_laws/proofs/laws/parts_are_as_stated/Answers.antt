use Rattle.sm_policy_laws.proofs.PartLemmas as parts
use Rattle.sm_policy_laws.proofs.laws.parts_are_as_stated.Goals as goal

pub returns-clause-effects : goal.returns-clause-effects
returns-clause-effects c = parts.effects

pub returns-clause-principals : goal.returns-clause-principals
returns-clause-principals c = parts.all_principals

pub returns-clause-patterns : goal.returns-clause-patterns
returns-clause-patterns c = parts.patterns

pub returns-clause-pattern_lists : goal.returns-clause-pattern_lists
returns-clause-pattern_lists c = parts.pattern_lists

pub returns-clause-operators : goal.returns-clause-operators
returns-clause-operators c = parts.operators

pub returns-clause-keys : goal.returns-clause-keys
returns-clause-keys c = parts.all_keys

pub returns-clause-conditions : goal.returns-clause-conditions
returns-clause-conditions c = parts.conditions
