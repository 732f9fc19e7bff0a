use Rattle.std.proofs.Common.{◌≡◌, flat_map, take}
use Rattle.sm_journal.specs.Records.{size}
use Rattle.sm_record.specs.Snapshots.{one_version}
use Rattle.sm_encoded_size.proofs.measure.versions_size.Given as goal

abbrev pub invariant-loop-at : goal.invariant-loop-at
invariant-loop-at l = l.sum ≡ size (flat_map one_version (take l.at l.versions))
