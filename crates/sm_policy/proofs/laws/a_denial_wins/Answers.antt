use Rattle.sm_policy.proofs.LawLemmas.{deny_wins, allow_is_undenied, decision_admits}
use Rattle.sm_policy.proofs.laws.a_denial_wins.Goals as goal

pub returns-clause-deny : goal.returns-clause-deny
returns-clause-deny c = deny_wins

pub returns-clause-allow : goal.returns-clause-allow
returns-clause-allow c = allow_is_undenied

pub returns-clause-admitted : goal.returns-clause-admitted
returns-clause-admitted c = decision_admits
