use Rattle.sm_recovery.proofs.KeepingLaws.{runs_keep, replacing_keeps, keeps_join}
use Rattle.sm_recovery.proofs.laws.runs_keep_states.Goals as goal

pub returns-clause-runs : goal.returns-clause-runs
returns-clause-runs g c = runs_keep g.D.Disk

pub returns-clause-replacing : goal.returns-clause-replacing
returns-clause-replacing g c = replacing_keeps g.D.Disk

pub returns-clause-joined : goal.returns-clause-joined
returns-clause-joined g c = keeps_join g.D.Disk
