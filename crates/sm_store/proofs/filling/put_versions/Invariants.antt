use Rattle.std.proofs.Common.{flat_map, take}
use Rattle.sm_record.specs.Snapshots.{one_version}
use Rattle.sm_store.specs.Filling.{HasAdded, GoesOn}
use Rattle.sm_store.proofs.filling.put_versions.Given as goal

abbrev pub invariant-loop-place : goal.invariant-loop-place
invariant-loop-place g l = HasAdded (flat_map one_version (take l.place l.versions)) l.fn.fresh l.fresh
    × GoesOn l.fn.fresh l.fresh
