use Rattle.std.proofs.Common.{◌≡◌, flat_map, take}
use Rattle.sm_journal.specs.Records.{size}
use Rattle.sm_record.specs.Snapshots.{secret_bodies}
use Rattle.sm_record.specs.declared.edition.Edition.TheVariants.{Second}
use Rattle.sm_encoded_size.proofs.measure.secrets_size.Given as goal

abbrev pub invariant-loop-row : goal.invariant-loop-row
invariant-loop-row l = l.sum ≡ size (flat_map (secret_bodies Second) (take l.row-index l.secrets))
