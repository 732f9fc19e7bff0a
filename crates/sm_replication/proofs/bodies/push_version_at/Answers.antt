use Rattle.sm_record.specs.Snapshots.{one_version}
use Rattle.sm_replication.proofs.EncodeLemmas.{bodies_same}
use Rattle.sm_replication.proofs.bodies.push_version_at.Goals as goal

pub returns-in-None : goal.returns-in-None
returns-in-None c =
    bodies_same one_version c.args.versions.now c.args.place c.args.bodies.now.items c.in-None.ensures
