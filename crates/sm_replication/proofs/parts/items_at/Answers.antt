use Rattle.std.proofs.lemmas.Result.{err_from_is_err_and}
use Rattle.sm_record.specs.Codec.{read_items}
use Rattle.sm_record.specs.Fields.{octets}
use Rattle.sm_record.proofs.ReadingLemmas.{goes_on, is_done}
use Rattle.sm_replication.proofs.DecodeLemmas.{items_fail}
use Rattle.sm_replication.proofs.parts.items_at.Goals as goal

pub returns-in_err-item : goal.returns-in_err-item
returns-in_err-item c =
    let p = err_from_is_err_and c.from_residual.result c.from_residual.ensures.1 in
    rw (p.1, p.2)
    (items_fail octets c.loop.items.items c.args.count c.loop.counter c.loop.rest.now
    (read_items octets c.args.count c.args.bytes.now) c.in_err-item.field-0.0 c.loop-test.true
    c.in_err-item.ensures c.loop.invariant)

pub loop-preserved : goal.loop-preserved
loop-preserved c =
    rw (c.in_ok-push.ensures.items, c.new.ensures)
    (goes_on octets c.loop.items.items c.args.count c.loop.counter c.loop.rest.now
    (read_items octets c.args.count c.args.bytes.now) c.in_ok-item.item.now c.in_ok-item.behind.now
    c.loop-test.true c.in_ok-item.ensures c.loop.invariant)

pub returns : goal.returns
returns c =
    is_done octets c.loop.items.items c.args.count c.loop.counter c.loop.rest.now
    (read_items octets c.args.count c.args.bytes.now) c.loop-test.false c.loop.invariant
