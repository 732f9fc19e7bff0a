use Rattle.std.proofs.Common.{◌≡◌, ◌+◌, take, arith}
use Rattle.sm_record.specs.Series.{total}
use Rattle.sm_record.proofs.SequelLemmas.{total_more}
use Rattle.sm_record.proofs.snapshot.checked_total.Goals as goal

pub loop-body-preserved : goal.loop-body-preserved
loop-body-preserved c =
    let next : c.loop-body.sum + c.len-length.result ≡ total (take (c.loop-body.body-index + 1) c.args.bodies.now) =
    omega (
      arith,
      c.len-length.ensures,
      c.loop-body.invariant,
      total_more c.args.bodies.now c.loop-body.body-index c.body-item.result c.loop-body-test.true c.body-item.is,
    ) in
    next
