use Rattle.std.proofs.Common.{◌∙◌, arith}
use Rattle.sm_recovery.proofs.PlaceLemmas.{count_more, count_all}
use Rattle.sm_recovery.proofs.lawful.secrets_count.Goals as goal

pub overflow_add-own : goal.overflow_add-own
overflow_add-own c =
    let counts = count_more c.args._edition c.args.secrets.now c.loop-row.row-index c.loop-row.count c.row-item.result
    c.loop-row-test.true c.row-item.is c.loop-row.invariant in
    omega (arith, c.requires, c.len.ensures, counts.within)

pub overflow_add-count : goal.overflow_add-count
overflow_add-count c =
    let counts = count_more c.args._edition c.args.secrets.now c.loop-row.row-index c.loop-row.count c.row-item.result
    c.loop-row-test.true c.row-item.is c.loop-row.invariant in
    omega (arith, c.requires, c.len.ensures, counts.within)

pub loop-row-preserved : goal.loop-row-preserved
loop-row-preserved c =
    let counts = count_more c.args._edition c.args.secrets.now c.loop-row.row-index c.loop-row.count c.row-item.result
    c.loop-row-test.true c.row-item.is c.loop-row.invariant in
    omega (arith, c.len.ensures, counts.is)

pub returns : goal.returns
returns c =
    c.loop-row.invariant ∙ count_all c.args._edition c.args.secrets.now c.loop-row.row-index c.loop-row-test.false
