use Rattle.sm_encoded_size.proofs.TypedLemmas.{rows_more, rows_all}
use Rattle.sm_encoded_size.proofs.typed.note_rows.Goals as goal

pub loop-row-preserved : goal.loop-row-preserved
loop-row-preserved c =
    rows_more c.args.rows.now c.loop-row.row-index c.row-item.result c.loop-row-test.true c.row-item.is
    c.note_row.ensures c.loop-row.invariant

pub returns : goal.returns
returns c = rows_all c.args.rows.now c.loop-row.row-index c.loop-row-test.false c.loop-row.invariant
