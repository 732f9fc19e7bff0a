use Rattle.std.proofs.lemmas.Result.{err_from_is_err_and}
use Rattle.sm_replication.proofs.DecodeLemmas.{none_gathered, gathers_more, entry_refused}
use Rattle.sm_replication.proofs.decoding.entries_of.Goals as goal

pub loop-body-init : goal.loop-body-init
loop-body-init c = rw c.new-entries.ensures.items (none_gathered c.args.bodies.now)

pub returns-in_err-entry : goal.returns-in_err-entry
returns-in_err-entry c =
    let p = err_from_is_err_and c.from_residual.result c.from_residual.ensures.1 in
    rw (p.1, p.2)
    (entry_refused c.args.bodies.now c.loop-body.body-index c.body-item.result c.in_err-entry.field-0.0
    c.loop-body-test.true c.body-item.is c.in_err-entry.ensures)

pub loop-body-preserved : goal.loop-body-preserved
loop-body-preserved c =
    rw c.in_ok-push.ensures.items
    (gathers_more c.args.bodies.now c.loop-body.body-index c.body-item.result c.loop-body-test.true c.body-item.is
    c.loop-body.entries.items c.in_ok-entry.entry c.loop-body.invariant c.in_ok-entry.ensures.0
    c.in_ok-entry.ensures.1)
