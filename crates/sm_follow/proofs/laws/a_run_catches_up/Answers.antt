use Rattle.sm_follow.proofs.CatchUpLaws.{runs_catch_up}
use Rattle.sm_follow.proofs.laws.a_run_catches_up.Goals as goal

pub returns : goal.returns
returns g c = runs_catch_up g.D.Disk
