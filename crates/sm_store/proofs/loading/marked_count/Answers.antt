use Rattle.std.proofs.Common.{◌∙◌, sym, arith}
use Rattle.sm_store.proofs.LoadRuns.{marked_more, marked_until, all_marked}
use Rattle.sm_store.proofs.loading.marked_count.Goals as goal

pub returns-then-not-is_marked : goal.returns-then-not-is_marked
returns-then-not-is_marked c =
    marked_until c.args.bodies.now c.loop-index.index c.loop-index.invariant c.body.result.now
    (omega (arith, c.loop-index-test.true, c.len-index-end.ensures)) c.body.ensures
    (sym c.if-not-is_marked.true ∙ c.is_marked.ensures)

pub loop-index-preserved : goal.loop-index-preserved
loop-index-preserved c =
    marked_more c.args.bodies.now c.loop-index.index c.loop-index.invariant c.body.result.now
    (omega (arith, c.loop-index-test.true, c.len-index-end.ensures)) c.body.ensures
    (sym c.if-not-is_marked.false ∙ c.is_marked.ensures)

pub returns : goal.returns
returns c =
    c.len.ensures
    ∙ all_marked c.args.bodies.now c.loop-index.index c.loop-index.invariant
    (omega (arith, c.loop-index-test.false, c.len-index-end.ensures))
