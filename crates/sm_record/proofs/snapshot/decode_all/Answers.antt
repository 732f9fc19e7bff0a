use Rattle.std.proofs.Common.{arith}
use Rattle.sm_record.proofs.SequelLemmas.{total_cut}
use Rattle.sm_record.proofs.SnapshotLaws.{left_within_all}
use Rattle.sm_record.proofs.snapshot.decode_all.Goals as goal

pub total-requires : goal.total-requires
total-requires c =
    omega (arith, total_cut c.in-Ok.taken c.args.bodies.now, c.requires.whole, c.ranges.whole.fits)

pub overflow_sub-result : goal.overflow_sub-result
overflow_sub-result c =
    omega (arith, total_cut c.in-Ok.taken c.args.bodies.now, c.requires.whole, c.total.ensures)

pub overflow_sub-result-in-Err-Left : goal.overflow_sub-result-in-Err-Left
overflow_sub-result-in-Err-Left c =
    omega (
      arith,
      left_within_all c.args.edition c.args.bodies.now c.in-Err-Left.left c.requires.bytes
          (rw c.in-Err-Left.field-0-is at c.in-Err-Left.ensures.exact),
      c.requires.whole,
    )
