use Rattle.sm_follow.proofs.CatchUpLaws.{replica_catches_up}
use Rattle.sm_follow.proofs.laws.a_replica_catches_up.Goals as goal

pub returns : goal.returns
returns c = replica_catches_up
