use Rattle.sm_replication.specs.declared.input.TheConstants.{LIST_LIMIT}
use Rattle.sm_replication.proofs.DecodeLemmas.{short_more, short_none}
use Rattle.sm_replication.proofs.encoding.is_short.Goals as goal

pub returns-in-None : goal.returns-in-None
returns-in-None c =
    short_none c.args.bodies.now LIST_LIMIT c.loop-body.left c.loop-body.body-index c.body-item.result c.len.result
    c.loop-body-test.true c.body-item.is c.loop-body.invariant c.len.ensures c.in-None.ensures

pub loop-body-preserved : goal.loop-body-preserved
loop-body-preserved c =
    short_more c.args.bodies.now LIST_LIMIT c.loop-body.left c.loop-body.body-index c.body-item.result c.len.result
    c.loop-body-test.true c.body-item.is c.loop-body.invariant c.len.ensures c.in-Some.rest c.in-Some.ensures
