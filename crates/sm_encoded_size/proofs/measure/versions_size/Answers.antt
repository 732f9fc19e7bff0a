use Rattle.std.proofs.Common.{arith}
use Rattle.sm_record.specs.Snapshots.{one_version}
use Rattle.sm_encoded_size.proofs.MeasureLemmas.{sums_at}
use Rattle.sm_encoded_size.proofs.measure.versions_size.Goals as goal

pub overflow_add-sum : goal.overflow_add-sum
overflow_add-sum c =
    let sums = sums_at one_version c.args.versions.now c.loop-at.at c.loop-at.sum c.in_ok-size.size
    (omega (arith, c.loop-at-test.true, c.len-at-end.ensures)) c.requires.short c.loop-at.invariant
    c.in_ok-size.ensures in
    omega (arith, sums.small)

pub loop-at-preserved : goal.loop-at-preserved
loop-at-preserved c =
    (sums_at one_version c.args.versions.now c.loop-at.at c.loop-at.sum c.in_ok-size.size
    (omega (arith, c.loop-at-test.true, c.len-at-end.ensures)) c.requires.short c.loop-at.invariant
    c.in_ok-size.ensures).is
