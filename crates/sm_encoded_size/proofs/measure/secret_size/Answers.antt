use Rattle.sm_record.specs.declared.edition.Edition.TheVariants.{Second}
use Rattle.sm_record.proofs.SnapshotLaws.{secret_fits}
use Rattle.sm_encoded_size.proofs.measure.secret_size.Goals as goal

pub encode_row-requires : goal.encode_row-requires
encode_row-requires c = (secret_fits Second c.args.row.now c.requires.spelled).0

pub versions_size-requires-clause-spelled : goal.versions_size-requires-clause-spelled
versions_size-requires-clause-spelled c = (secret_fits Second c.args.row.now c.requires.spelled).1
