use Rattle.std.proofs.Common.{take, arith}
use Rattle.sm_table.specs.Sweep.{swept}
use Rattle.sm_summary.proofs.WalkLemmas.{counted_all, counted_next}
use Rattle.sm_summary.proofs.walk.count_rows.Goals as goal

pub loop-place-preserved : goal.loop-place-preserved
loop-place-preserved c =
    let rows = c.args.table.now.secrets in
    let before = swept (take c.loop-place.place rows) c.args.moment in (
      counted_next rows c.loop-place.place c.row_at.result.now c.args.moment _ c.row_at.ensures.row
          (c.count_if_there.ensures.counted before c.loop-place.invariant.0),
      omega (arith, c.count_if_there.ensures.secrets, c.loop-place.invariant.1),
      omega (arith, c.count_if_there.ensures.versions, c.loop-place.invariant.2),
    )
