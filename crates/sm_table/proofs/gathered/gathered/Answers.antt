use Rattle.sm_table.proofs.GatherLemmas.{new_serial, new_name, still_rising, gathered_more}
use Rattle.sm_table.proofs.gathered.gathered.Goals as goal

pub gather-requires-clause-new_serial : goal.gather-requires-clause-new_serial
gather-requires-clause-new_serial c =
    new_serial c.args.rows.now c.args.left c.loop-row.row-index c.row-item.result c.loop-row-test.true c.row-item.is
    c.loop-row.indexed c.loop-row.invariant c.requires.rising

pub gather-requires-clause-new_name : goal.gather-requires-clause-new_name
gather-requires-clause-new_name c =
    new_name c.args.rows.now c.args.left c.loop-row.row-index c.row-item.result c.loop-row-test.true c.row-item.is
    c.loop-row.indexed c.loop-row.invariant c.requires.names

pub gather-requires-clause-rising : goal.gather-requires-clause-rising
gather-requires-clause-rising c =
    still_rising c.args.rows.now c.args.left c.loop-row.row-index c.row-item.result c.loop-row-test.true c.row-item.is
    c.loop-row.indexed c.loop-row.invariant c.requires.rising

pub loop-row-preserved : goal.loop-row-preserved
loop-row-preserved c =
    gathered_more c.args.rows.now c.args.left c.loop-row.row-index c.row-item.result c.loop-row-test.true c.row-item.is
    c.loop-row.indexed c.loop-row.invariant c.gather.new.indexed c.in_ok-gather.ensures.kept
    c.in_ok-gather.ensures.rows c.in_ok-gather.ensures.left c.in_ok-gather.ensures.room
