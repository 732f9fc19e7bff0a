use Rattle.sm_reply.proofs.OrderLemmas.{replies_exact, refusals_exact, got_exact, errors_exact, listed_exact, replicas_exact, rules_exact, tags_exact, versions_exact, faults_exact}
use Rattle.sm_reply.proofs.laws.members_stand_where_their_values_are.Goals as goal

pub returns-clause-replies : goal.returns-clause-replies
returns-clause-replies c = replies_exact

pub returns-clause-refusals : goal.returns-clause-refusals
returns-clause-refusals c = refusals_exact

pub returns-clause-got : goal.returns-clause-got
returns-clause-got c = got_exact

pub returns-clause-errors : goal.returns-clause-errors
returns-clause-errors c = errors_exact

pub returns-clause-listed : goal.returns-clause-listed
returns-clause-listed c = listed_exact

pub returns-clause-replicas : goal.returns-clause-replicas
returns-clause-replicas c = replicas_exact

pub returns-clause-rules : goal.returns-clause-rules
returns-clause-rules c = rules_exact

pub returns-clause-tags : goal.returns-clause-tags
returns-clause-tags c = tags_exact

pub returns-clause-versions : goal.returns-clause-versions
returns-clause-versions c = versions_exact

pub returns-clause-faults : goal.returns-clause-faults
returns-clause-faults c = faults_exact
