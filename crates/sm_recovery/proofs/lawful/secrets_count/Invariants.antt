use Rattle.std.proofs.Common.{◌≡◌, flat_map, length, take}
use Rattle.sm_record.specs.Snapshots.{secret_bodies}
use Rattle.sm_recovery.proofs.lawful.secrets_count.Given as goal

abbrev pub invariant-loop-row : goal.invariant-loop-row
invariant-loop-row l = l.count ≡ length (flat_map (secret_bodies l.fn._edition) (take l.row-index l.secrets))
