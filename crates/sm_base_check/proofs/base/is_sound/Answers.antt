use Rattle.std.proofs.Common.{◌∙◌, sym}
use Rattle.sm_base_check.proofs.SoundLaws.{too_late, in_time}
use Rattle.sm_base_check.proofs.base.is_sound.Goals as goal

pub returns-then-not-is_read : goal.returns-then-not-is_read
returns-then-not-is_read c = too_late c.args.base.now (sym c.is_read.ensures ∙ c.if-not-is_read.true)

pub returns : goal.returns
returns c =
    in_time c.args.base.now c.in_ok-rows_fit.field-0 (sym c.is_read.ensures ∙ c.if-not-is_read.false)
    c.in_ok-rows_fit.ensures
