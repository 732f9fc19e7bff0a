use Rattle.sm_record.proofs.SnapshotLaws.{rows_found, only_rows, no_rows}
use Rattle.sm_record.proofs.snapshot.decode_rows.Goals as goal

pub returns-in-Some-clause-found : goal.returns-in-Some-clause-found
returns-in-Some-clause-found c =
    rows_found c.args.edition c.args.bodies.now c.decode_all.result c.note_all.ensures c.decode_all.ensures

pub returns-in-Some-clause-only : goal.returns-in-Some-clause-only
returns-in-Some-clause-only c =
    λ base fits same. only_rows c.args.edition c.args.bodies.now c.decode_all.result base c.decode_all.ensures fits same

pub returns-in-Some-clause-no_rows : goal.returns-in-Some-clause-no_rows
returns-in-Some-clause-no_rows c =
    λ place is. no_rows c.args.edition c.args.bodies.now c.decode_all.result place c.decode_all.ensures is
