use Rattle.sm_model.specs.declared.rows.SecretRow.{SecretRow}
use Rattle.sm_versions.specs.Kept.{KeptUnsettled}
use Rattle.sm_versions.specs.Sound.{UnsettledSound}
use Rattle.sm_rotation.specs.Vouched.{RowVouched}
use Rattle.sm_rotation.proofs.KeptLemmas.{begin_keeps, after_begin}
use Rattle.sm_rotation.proofs.SoundLemmas.{begin_sound}
use Rattle.sm_rotation.proofs.VouchedLemmas.{begin_vouched}
use Rattle.sm_rotation.proofs.starting.begin.Goals as goal

pub returns-in-Ok-clause-kept : goal.returns-in-Ok-clause-kept
returns-in-Ok-clause-kept c =
    after_begin KeptUnsettled c.in-Ok.began c.args.row.now _ c.args.token.now c.args.when
    (begin_keeps c.args.row.now c.args.token.now c.args.when) c.in-Ok.ensures.answer c.in-Ok.ensures.row

pub returns-in-Ok-clause-sound : goal.returns-in-Ok-clause-sound
returns-in-Ok-clause-sound c =
    after_begin UnsettledSound c.in-Ok.began c.args.row.now _ c.args.token.now c.args.when
    (begin_sound c.args.row.now c.args.token.now c.args.when c.requires) c.in-Ok.ensures.answer c.in-Ok.ensures.row

pub returns-in-Ok-clause-vouched : goal.returns-in-Ok-clause-vouched
returns-in-Ok-clause-vouched c = λ replies.
    after_begin (λ (r : SecretRow). RowVouched replies r) c.in-Ok.began c.args.row.now _ c.args.token.now c.args.when
    (λ begins h. begin_vouched replies c.args.row.now c.args.token.now c.args.when.moment h) c.in-Ok.ensures.answer
    c.in-Ok.ensures.row
