-- Judging UpdateSecret: when it is refused, when it repeats, and what it changes.
use Rattle.std.proofs.Common.{◌≡◌, ℕ, true, List, [], ◌∷◌, Option, Some, None, is_some, is_none, IfSome, IsTrue, refl, ap, ◌∙◌, arith}
use Rattle.std.proofs.lemmas.Bool.{or_right}
use Rattle.std.proofs.lemmas.Option.{IfSome_then}
use Rattle.sm_base.specs.declared.moment.Moment.{Moment}
use Rattle.sm_model.specs.Versions.{When}
use Rattle.sm_base.specs.SecretId.{secret_id}
use Rattle.sm_model.specs.declared.request.UpdateSecret.{UpdateSecret}
use Rattle.sm_model.specs.declared.rows.Rows.{Rows}
use Rattle.sm_model.specs.declared.rows.SecretRow.{SecretRow}
use Rattle.sm_model.specs.Bounds.{fits, is_description, is_small, is_date}
use Rattle.sm_forms.specs.UpdateSecret.{update_forms}
use Rattle.sm_forms.proofs.UpdateSecretLemmas.{update_text, update_binary, update_description, update_kms}
use Rattle.sm_model.specs.Labels.{aws_current, holder}
use Rattle.sm_versions.specs.Put.{put_row}
use Rattle.sm_versions.specs.Kept.{will_have_current}
use Rattle.sm_versions.specs.Sound.{UnsettledSound}
use Rattle.sm_versions.proofs.TextLemmas.{same_text_itself}
use Rattle.sm_versions.proofs.CountLaws.{put_counted}
use Rattle.sm_versions.proofs.SoundLaws.{put_sound, put_same_secret}
use Rattle.sm_table.specs.Sweep.{sweep}
use Rattle.sm_table.specs.Found.{found}
use Rattle.sm_table.specs.Sound.{Sound}
use Rattle.sm_judge_common.specs.declared.judged.Judged.{Judged}
use Rattle.sm_judge_common.specs.Changes.{settled, IsChange}
use Rattle.sm_judge_common.specs.Judged.{refusal_told, IfAccepted, IfChange}
use Rattle.sm_judge_common.specs.Members.{value_of}
use Rattle.sm_judge_common.specs.Secrets.{finished_row}
use Rattle.sm_judge_common.proofs.JudgedLemmas.{on_secret_refusal, on_secret_repeat}
use Rattle.sm_judge_common.proofs.ChangeLemmas.{OnRow, on_secret_change, found_row_sound, found_row_few, found_change, found_change_beside}
use Rattle.sm_judge_values.specs.declared.new_value.NewValue.{NewValue}
use Rattle.sm_judge_values.specs.declared.update_secret.UpdateCall.{UpdateCall}
use Rattle.sm_judge_values.specs.NewValue.{token_of, judged_by, is_repeat}
use Rattle.sm_judge_values.specs.UpdateSecret.{update_call, given_or, redescribed, with_value, update_placed, update_accepted, update_repeated, update_on, update_judgement, update_refusal_on, update_refusal, update_repeat, update_effect}
use Rattle.sm_judge_values.proofs.NewValueLemmas.{value_small, new_small, refused_in, value_refuses, judged_refuses, IfPlaced, value_repeats, judged_repeats, judged_change}

-- ---- refusals

placed_refuses : (row : SecretRow) (when : When) (value : Option NewValue)
    → refused_in (update_placed value row when) ≡ update_refusal_on row when value
placed_refuses row when None = refl
placed_refuses row when (Some new) = value_refuses row new (aws_current ∷ []) when

on_refuses : (row : SecretRow) (when : When) (call : UpdateCall) → refusal_told (update_on row when call)
    ≡ Some (update_refusal_on row when call.value)
on_refuses row when call =
    judged_refuses (update_placed call.value row when)
    (λ after. update_accepted (finished_row (redescribed call after) when) (token_of call.value))
    (update_repeated row (token_of call.value)) (λ after. refl) refl
    ∙ ap (λ why. Some why) (placed_refuses row when call.value)

pub update_refuses : (rows : Rows) (when : When) (drawn : List ℕ) (update : UpdateSecret)
    → refusal_told (update_judgement rows when drawn update) ≡ Some (update_refusal rows when drawn update)
update_refuses rows when drawn update =
    let call : UpdateCall = update_call drawn update in
    on_secret_refusal (found rows when.moment (secret_id update.secret_id)) (λ row. update_on row when call)
    (λ row. update_refusal_on row when call.value)
    (λ row. on_refuses row when call)

-- ---- repeats

placed_repeats : (row : SecretRow) (when : When) (value : Option NewValue)
    → IfPlaced (update_placed value row when) (λ repeats. repeats ≡ is_repeat row value)
placed_repeats row when None = refl
placed_repeats row when (Some new) = value_repeats row new (aws_current ∷ []) when

on_repeats : (row : SecretRow) (when : When) (call : UpdateCall)
    → IfAccepted (update_on row when call) (λ change. is_none change ≡ is_repeat row call.value)
on_repeats row when call =
    judged_repeats (update_placed call.value row when)
    (λ after. update_accepted (finished_row (redescribed call after) when) (token_of call.value))
    (update_repeated row (token_of call.value)) (is_repeat row call.value) (λ after. refl) refl
    (placed_repeats row when call.value)

-- nothing is changed exactly by a repeat
pub update_repeats : (rows : Rows) (when : When) (drawn : List ℕ) (update : UpdateSecret)
    → IfAccepted (update_judgement rows when drawn update)
    (λ change. is_none change ≡ update_repeat rows when.moment drawn update)
update_repeats rows when drawn update =
    let call : UpdateCall = update_call drawn update in
    on_secret_repeat (found rows when.moment (secret_id update.secret_id)) (λ row. update_on row when call)
    (λ row. is_repeat row call.value)
    (λ row. on_repeats row when call)

-- ---- the change

given_fits : (given kept : Option (List ℕ)) → IfSome given (λ t. IsTrue (is_description t))
    → IsTrue (fits is_description kept) → IsTrue (fits is_description (given_or given kept))
given_fits None kept new old = old
given_fits (Some given) kept new old = new

-- what is given fits
record Fits (call : UpdateCall) : Type 0 where
  description : IfSome call.description (λ t. IsTrue (is_description t))
  kms : IfSome call.kms (λ t. IsTrue (is_description t))
  small : IfSome call.value (λ new. IsTrue (is_small new.value))

-- a description and a KMS key id that fit keep a secret sound
redescribed_sound : (call : UpdateCall) (row : SecretRow) → Fits call → UnsettledSound row
    → UnsettledSound (redescribed call row)
redescribed_sound call row fit sound =
    let description = given_fits call.description row.description fit.description sound.fits.description in
    let kms = given_fits call.kms row.kms fit.kms sound.fits.kms in
    record {
      kept = record {
        versions = assumption sound.kept.versions;
        job = IfSome_then row.job sound.kept.job (λ job fits. assumption fits);
      };
      fits = assumption (description, kms, sound.fits);
    }

current_placed : (row : SecretRow) → will_have_current row (aws_current ∷ []) ≡ true
current_placed row = or_right (is_some (holder row.labels aws_current)) _
    (grind (arith, same_text_itself aws_current))

-- the judgement and the changed row by the value, if one is given
abbrev on_with : UpdateCall → Option NewValue → SecretRow → When → Judged
on_with call value row when =
    judged_by (update_placed value row when)
    (λ after. update_accepted (finished_row (redescribed call after) when) (token_of value))
    (update_repeated row (token_of value))

abbrev into_with : UpdateCall → Option NewValue → Moment → SecretRow → SecretRow
into_with call value moment row = redescribed call (with_value value moment row)

on_value : (rows : Rows) (when : When) (call : UpdateCall) (value : Option NewValue) (row : SecretRow) → Sound rows
    → IsTrue (is_date when.moment) → Fits call → IfSome value (λ new. IsTrue (is_small new.value))
    → found rows when.moment call.id ≡ Some row
    → IfChange (on_with call value row when) (OnRow rows when call.id (into_with call value when.moment))
on_value rows when call None row sound date fit small e =
    found_change_beside rows when call.id (into_with call None when.moment) row sound date e
    (record { serial = refl; name = refl; arn = refl; versions = refl })
    (redescribed_sound call row fit)
on_value rows when call (Some new) row sound date fit small e =
    let labels : List (List ℕ) = aws_current ∷ [] in
    let same = put_same_secret row new.token new.value labels when.moment in
    judged_change row new labels when
    (λ after. update_accepted (finished_row (redescribed call after) when) (Some new.token))
    (update_repeated row (Some new.token)) (OnRow rows when call.id (into_with call (Some new) when.moment))
    (λ added. found_change rows when call.id (into_with call (Some new) when.moment) row sound date e (record {
      serial = same.0;
      name = same.1;
      arn = same.2;
      sound = redescribed_sound call (put_row row new.token new.value labels when.moment) fit
          (put_sound row new.token new.value labels when added (current_placed row) small date
          (found_row_sound rows when.moment call.id row sound e));
      few = put_counted row new.token new.value labels when added
          (found_row_few rows when.moment call.id row sound e);
    }))
    tt

call_fits : (drawn : List ℕ) (update : UpdateSecret) → update_forms update ≡ None → Fits (update_call drawn update)
call_fits drawn update forms = record {
  description = update_description update forms;
  kms = update_kms update forms;
  small = new_small _ (value_of update.secret_string update.secret_binary)
      (value_small update.secret_string update.secret_binary (update_text update forms) (update_binary update forms));
}

-- a change is the entry's
pub update_change : (rows : Rows) (when : When) (drawn : List ℕ) (update : UpdateSecret) → Sound rows
    → IsTrue (is_date when.moment)
    → update_forms update ≡ None
    → IfChange (update_judgement rows when drawn update) (IsChange rows when.moment
    (settled (update_effect (sweep rows when.moment) when drawn update)))
update_change rows when drawn update sound date forms =
    let call : UpdateCall = update_call drawn update in
    let fit = call_fits drawn update forms in
    on_secret_change (found rows when.moment (secret_id update.secret_id)) (λ row. update_on row when call) _
    (λ row e. on_value rows when call call.value row sound date fit fit.small e)
