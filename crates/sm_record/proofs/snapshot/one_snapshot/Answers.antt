use Rattle.sm_record.proofs.SnapshotLaws.{decoded_from_spelling, spells_one_base}
use Rattle.sm_record.proofs.snapshot.one_snapshot.Goals as goal

pub returns-clause-exactly : goal.returns-clause-exactly
returns-clause-exactly c = decoded_from_spelling

pub returns-clause-one : goal.returns-clause-one
returns-clause-one c = spells_one_base
