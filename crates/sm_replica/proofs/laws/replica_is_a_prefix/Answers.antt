use Rattle.sm_replica.proofs.PrefixLaws.{follows_history, ships_of_history, catches_up}
use Rattle.sm_replica.proofs.laws.replica_is_a_prefix.Goals as goal

pub returns-clause-follows : goal.returns-clause-follows
returns-clause-follows c = follows_history

pub returns-clause-ships : goal.returns-clause-ships
returns-clause-ships c = ships_of_history

pub returns-clause-catches_up : goal.returns-clause-catches_up
returns-clause-catches_up c = catches_up
