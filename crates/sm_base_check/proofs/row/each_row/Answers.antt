use Rattle.std.proofs.Common.{◌∙◌, sym}
use Rattle.sm_base_check.proofs.SoundLaws.{each_more, each_not}
use Rattle.sm_base_check.proofs.row.each_row.Goals as goal

pub returns-then-not-branch : goal.returns-then-not-branch
returns-then-not-branch c =
    sym (each_not c.args.rows.now c.loop-row.row-index c.row-item.result c.loop-row-test.true c.row-item.is
    (sym c.in_ok-row_fits.ensures ∙ c.if-not-branch.true))

pub loop-row-preserved : goal.loop-row-preserved
loop-row-preserved c =
    each_more c.args.rows.now c.loop-row.row-index c.row-item.result c.loop-row-test.true c.row-item.is
    (sym c.in_ok-row_fits.ensures ∙ c.if-not-branch.false) c.loop-row.invariant
