use Rattle.sm_follow.proofs.RunLaws.{is_a_prefix, keeps_or_promotes}
use Rattle.sm_follow.proofs.laws.a_replica_is_a_prefix.Goals as goal

pub returns-clause-prefix : goal.returns-clause-prefix
returns-clause-prefix c = is_a_prefix

pub returns-clause-held : goal.returns-clause-held
returns-clause-held c = keeps_or_promotes
