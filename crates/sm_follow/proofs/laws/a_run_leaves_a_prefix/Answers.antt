use Rattle.sm_follow.proofs.RunLaws.{runs_leave_prefix}
use Rattle.sm_follow.proofs.laws.a_run_leaves_a_prefix.Goals as goal

pub returns : goal.returns
returns g c = runs_leave_prefix g.D.Disk
