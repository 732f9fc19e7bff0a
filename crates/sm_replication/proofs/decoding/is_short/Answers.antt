use Rattle.sm_replication.specs.declared.input.TheConstants.{LIST_LIMIT}
use Rattle.sm_replication.proofs.DecodeLemmas.{short_more, short_none}
use Rattle.sm_replication.proofs.decoding.is_short.Goals as goal

pub returns-in-None : goal.returns-in-None
returns-in-None c =
    short_none c.args.items.now LIST_LIMIT c.loop-item.left c.loop-item.item-index c.item-item.result c.len.result
    c.loop-item-test.true c.item-item.is c.loop-item.invariant c.len.ensures c.in-None.ensures

pub loop-item-preserved : goal.loop-item-preserved
loop-item-preserved c =
    short_more c.args.items.now LIST_LIMIT c.loop-item.left c.loop-item.item-index c.item-item.result c.len.result
    c.loop-item-test.true c.item-item.is c.loop-item.invariant c.len.ensures c.in-Some.rest c.in-Some.ensures
