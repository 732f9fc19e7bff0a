use Rattle.std.proofs.Common.{arith}
use Rattle.sm_record.specs.Snapshots.{secret_bodies}
use Rattle.sm_record.specs.declared.edition.Edition.TheVariants.{Second}
use Rattle.sm_encoded_size.proofs.MeasureLemmas.{part_short, sums_of}
use Rattle.sm_encoded_size.proofs.measure.secrets_size.Goals as goal

pub secret_size-requires-clause-short : goal.secret_size-requires-clause-short
secret_size-requires-clause-short c =
    part_short (secret_bodies Second) c.args.secrets.now c.loop-row.row-index c.row-item.result c.loop-row-test.true
    c.row-item.is c.requires.short

pub overflow_add-sum : goal.overflow_add-sum
overflow_add-sum c =
    let sums = sums_of (secret_bodies Second) c.args.secrets.now c.loop-row.row-index c.loop-row.sum
    c.in_ok-size.size c.loop-row-test.true c.requires.short c.loop-row.invariant c.row-item.result c.row-item.is
    c.in_ok-size.ensures in
    omega (arith, sums.small)

pub loop-row-preserved : goal.loop-row-preserved
loop-row-preserved c =
    (sums_of (secret_bodies Second) c.args.secrets.now c.loop-row.row-index c.loop-row.sum c.in_ok-size.size
    c.loop-row-test.true c.requires.short c.loop-row.invariant c.row-item.result c.row-item.is
    c.in_ok-size.ensures).is
