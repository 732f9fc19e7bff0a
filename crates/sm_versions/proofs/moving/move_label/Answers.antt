use Rattle.std.proofs.Common.{option_copied}
use Rattle.sm_versions.proofs.KeptLaws.{after_move}
use Rattle.sm_versions.proofs.moving.move_label.Goals as goal

pub returns-in-Ok-clause-kept : goal.returns-in-Ok-clause-kept
returns-in-Ok-clause-kept c =
    after_move c.in-Ok.moved c.args.row.now _ c.args.label.now (option_copied c.args.to) (option_copied c.args.from)
    c.in-Ok.ensures.answer c.in-Ok.ensures.row
