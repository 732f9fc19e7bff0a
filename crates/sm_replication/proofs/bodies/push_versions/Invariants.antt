use Rattle.std.proofs.Common.{◌≡◌, ◌++◌, flat_map, take}
use Rattle.sm_record.specs.Snapshots.{one_version}
use Rattle.sm_replication.proofs.bodies.push_versions.Given as goal

abbrev pub invariant-loop-place : goal.invariant-loop-place
invariant-loop-place l = l.bodies.items ≡ l.fn.bodies.items ++ flat_map one_version (take l.place l.versions)
