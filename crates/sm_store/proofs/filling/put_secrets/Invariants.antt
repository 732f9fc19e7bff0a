use Rattle.std.proofs.Common.{flat_map, take}
use Rattle.sm_record.specs.Snapshots.{secret_bodies}
use Rattle.sm_record.specs.declared.edition.Edition.TheVariants as editions
use Rattle.sm_store.specs.Filling.{HasAdded, GoesOn}
use Rattle.sm_store.proofs.filling.put_secrets.Given as goal

abbrev pub invariant-loop-row : goal.invariant-loop-row
invariant-loop-row g l =
    HasAdded (flat_map (secret_bodies editions.Second) (take l.row-index l.secrets)) l.fn.fresh l.fresh
    × GoesOn l.fn.fresh l.fresh
