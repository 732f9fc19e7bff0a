use Rattle.sm_model.specs.declared.rows.SecretRow.{SecretRow}
use Rattle.sm_versions.specs.Kept.{CurrentKept}
use Rattle.sm_versions.specs.Sound.{RowSound}
use Rattle.sm_rotation.specs.Step.{is_done}
use Rattle.sm_rotation.specs.Vouched.{RowVouched}
use Rattle.sm_rotation.proofs.KeptLemmas.{applied_keeps, after_apply}
use Rattle.sm_rotation.proofs.SoundLemmas.{applied_sound}
use Rattle.sm_rotation.proofs.VouchedLemmas.{applied_vouched}
use Rattle.sm_rotation.proofs.stepping.apply.Goals as goal

pub returns-in-Ok-clause-kept : goal.returns-in-Ok-clause-kept
returns-in-Ok-clause-kept c =
    let row = c.args.row.now in
    after_apply CurrentKept (is_done c.in-Ok.applied) row _ c.args.answer.now c.args.moment
    (applied_keeps row row.job c.args.answer.now c.args.moment c.requires.current_kept c.requires.current_kept.job)
    c.in-Ok.ensures.row c.requires.current_kept

pub returns-in-Ok-clause-sound : goal.returns-in-Ok-clause-sound
returns-in-Ok-clause-sound c = λ sound.
    let row = c.args.row.now in
    after_apply RowSound (is_done c.in-Ok.applied) row _ c.args.answer.now c.args.moment
    (applied_sound row c.args.answer.now c.args.moment c.requires.moment_in sound) c.in-Ok.ensures.row sound

pub returns-in-Ok-clause-vouched : goal.returns-in-Ok-clause-vouched
returns-in-Ok-clause-vouched c = λ replies h accepts.
    let row = c.args.row.now in
    after_apply (λ (r : SecretRow). RowVouched replies r) (is_done c.in-Ok.applied) row _ c.args.answer.now
    c.args.moment (applied_vouched replies row c.args.answer.now c.args.moment c.requires.current_kept h accepts)
    c.in-Ok.ensures.row h
