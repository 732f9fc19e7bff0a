use Rattle.std.proofs.Common.{◌≡◌, ◌+◌, take, arith}
use Rattle.sm_record.specs.Series.{total}
use Rattle.sm_record.proofs.SequelLemmas.{total_more, total_take}
use Rattle.sm_record.proofs.bodies.total.Goals as goal

pub overflow_add-sum : goal.overflow_add-sum
overflow_add-sum c =
    omega (
      arith,
      c.len-sum.ensures,
      c.loop-body.invariant,
      total_more c.args.bodies.now c.loop-body.body-index c.body-item.result c.loop-body-test.true c.body-item.is,
      total_take (c.loop-body.body-index + 1) c.args.bodies.now,
      c.requires,
    )

pub loop-body-preserved : goal.loop-body-preserved
loop-body-preserved c =
    let next : c.loop-body.sum + c.len-sum.result ≡ total (take (c.loop-body.body-index + 1) c.args.bodies.now) =
    omega (
      arith,
      c.len-sum.ensures,
      c.loop-body.invariant,
      total_more c.args.bodies.now c.loop-body.body-index c.body-item.result c.loop-body-test.true c.body-item.is,
    ) in
    next
