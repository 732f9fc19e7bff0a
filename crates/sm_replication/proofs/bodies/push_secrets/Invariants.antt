use Rattle.std.proofs.Common.{◌≡◌, ◌++◌, flat_map, take}
use Rattle.sm_record.specs.Snapshots.{secret_bodies}
use Rattle.sm_record.specs.declared.edition.Edition.TheVariants.{Second}
use Rattle.sm_replication.proofs.bodies.push_secrets.Given as goal

abbrev pub invariant-loop-row : goal.invariant-loop-row
invariant-loop-row l =
    l.bodies.items ≡ l.fn.bodies.items ++ flat_map (secret_bodies Second) (take l.row-index l.secrets)
