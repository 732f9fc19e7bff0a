-- Judging PutSecretValue: its members, when it is refused, when it repeats, and what it changes.
use Rattle.std.proofs.Common.{◌≡◌, ℕ, ◌≤◌, Bool, true, false, ◌||◌, cond, List, [], ◌∷◌, ◌++◌, Option, Some, None, is_some, is_none, IfSome, IsTrue, refl, ap, ◌∙◌, arith}
use Rattle.std.proofs.lemmas.Bool.{or_right}
use Rattle.sm_model.specs.Versions.{When}
use Rattle.sm_base.specs.SecretId.{secret_id}
use Rattle.sm_model.specs.declared.request.PutSecretValue.{PutSecretValue}
use Rattle.sm_model.specs.declared.rows.Rows.{Rows}
use Rattle.sm_model.specs.declared.rows.SecretRow.{SecretRow}
use Rattle.sm_model.specs.Bounds.{is_small, is_date}
use Rattle.sm_model.specs.Needed.{token_bytes, token_bytes_if}
use Rattle.sm_forms.specs.PutSecretValue.{put_forms}
use Rattle.sm_forms.proofs.PutSecretValueLemmas.{put_text, put_binary}
use Rattle.sm_versions.specs.Texts.{is_among}
use Rattle.sm_base.specs.Texts.{same_text}
use Rattle.sm_model.specs.Labels.{aws_current, holder}
use Rattle.sm_versions.specs.Versions.{same}
use Rattle.sm_versions.specs.Kept.{will_have_current}
use Rattle.sm_versions.proofs.TextLemmas.{same_text_itself}
use Rattle.sm_versions.proofs.CountLaws.{put_counted}
use Rattle.sm_versions.proofs.SoundLaws.{put_sound, put_same_secret}
use Rattle.sm_table.specs.Sweep.{sweep}
use Rattle.sm_table.specs.Found.{found}
use Rattle.sm_table.specs.Sound.{Sound}
use Rattle.sm_judge_common.specs.declared.judged.Judged.{Judged}
use Rattle.sm_judge_common.specs.Changes.{settled, IsChange}
use Rattle.sm_judge_common.specs.Judged.{refusal_told, IfAccepted, IfChange}
use Rattle.sm_judge_common.specs.Members.{value_of}
use Rattle.sm_judge_common.specs.Secrets.{finished_row}
use Rattle.sm_judge_common.proofs.JudgedLemmas.{on_secret_refusal, on_secret_repeat}
use Rattle.sm_judge_common.proofs.ChangeLemmas.{OnRow, on_secret_change, found_row_sound, found_row_few, found_change}
use Rattle.sm_judge_values.specs.declared.new_value.NewValue.{NewValue}
use Rattle.sm_judge_values.specs.declared.put_secret_value.PutCall.{PutCall}
use Rattle.sm_judge_values.specs.NewValue.{new_value, placed}
use Rattle.sm_judge_values.specs.PutSecretValue.{put_value, put_call_with, put_call, labels_placed, put_into, put_accepted, put_repeated, put_on, put_judged, put_judgement_of, put_judgement, put_refusal_on, put_refusal_of, put_refusal, put_repeat_of, put_repeat, put_effect_of, put_effect}
use Rattle.sm_judge_values.proofs.NewValueLemmas.{value_small, new_small, value_refuses, judged_refuses, value_repeats, judged_repeats, judged_change}

-- ---- the members

-- where a value is there, the bytes of its token are those of the request
pub room_for_put : (given : Bool) (token : Option (List ℕ)) (n : ℕ) → given ≡ true → n ≡ token_bytes token
    → token_bytes_if given token ≤ n
room_for_put true token n h e = omega (arith, e)
room_for_put false token n h e = absurd (let f : false ≡ true = h in cc)

-- a value is there where its text is or its bytes are
pub some_value : (token : Option (List ℕ)) (drawn : List ℕ) (text binary : Option (List ℕ))
    → (is_some text || is_some binary) ≡ true → None ≡ new_value token drawn text binary → ⊥
some_value token drawn (Some text) binary h e = cc
some_value token drawn None (Some bytes) h e = cc
some_value token drawn None None h e = let f : false ≡ true = h in cc

-- the members with the value
pub call_of_value : (call : PutCall) (drawn : List ℕ) (put : PutSecretValue) (value : NewValue) → Some call
    ≡ put_call_with put (Some value)
    → Some value ≡ put_value drawn put → Some call ≡ put_call drawn put
call_of_value call drawn put value e valued = e ∙ ap (put_call_with put) valued

-- the judgement of a request is that of its members
pub judged_of_call : (judged : Judged) (rows : Rows) (when : When) (call : PutCall) (drawn : List ℕ)
    (put : PutSecretValue)
    → judged ≡ put_judged rows when call → Some call ≡ put_call drawn put → judged
    ≡ put_judgement rows when drawn put
judged_of_call judged rows when call drawn put e is = e ∙ ap (put_judgement_of rows when) is

-- ---- refusals

on_refuses : (row : SecretRow) (when : When) (call : PutCall) → refusal_told (put_on row when call)
    ≡ Some (put_refusal_on row when call)
on_refuses row when call =
    let labels : List (List ℕ) = labels_placed row call.labels in
    judged_refuses (placed row call.value labels when)
    (λ after. put_accepted (finished_row after when) call.value.token) (put_repeated row call.value.token)
    (λ after. refl) refl
    ∙ ap (λ why. Some why) (value_refuses row call.value labels when)

of_refuses : (rows : Rows) (when : When) (call : Option PutCall)
    → refusal_told (put_judgement_of rows when call) ≡ Some (put_refusal_of rows when call)
of_refuses rows when None = refl
of_refuses rows when (Some call) =
    on_secret_refusal (found rows when.moment call.id) (λ row. put_on row when call)
    (λ row. put_refusal_on row when call)
    (λ row. on_refuses row when call)

pub put_refuses : (rows : Rows) (when : When) (drawn : List ℕ) (put : PutSecretValue)
    → refusal_told (put_judgement rows when drawn put) ≡ Some (put_refusal rows when drawn put)
put_refuses rows when drawn put = of_refuses rows when (put_call drawn put)

-- ---- repeats

on_repeats : (row : SecretRow) (when : When) (call : PutCall)
    → IfAccepted (put_on row when call) (λ change. is_none change ≡ same row call.value.token call.value.value)
on_repeats row when call =
    let labels : List (List ℕ) = labels_placed row call.labels in
    judged_repeats (placed row call.value labels when)
    (λ after. put_accepted (finished_row after when) call.value.token) (put_repeated row call.value.token) _
    (λ after. refl) refl
    (value_repeats row call.value labels when)

of_repeats : (rows : Rows) (when : When) (call : Option PutCall)
    → IfAccepted (put_judgement_of rows when call) (λ change. is_none change ≡ put_repeat_of rows when.moment call)
of_repeats rows when None = tt
of_repeats rows when (Some call) =
    on_secret_repeat (found rows when.moment call.id) (λ row. put_on row when call)
    (λ row. same row call.value.token call.value.value)
    (λ row. on_repeats row when call)

-- nothing is changed exactly by a repeat
pub put_repeats : (rows : Rows) (when : When) (drawn : List ℕ) (put : PutSecretValue)
    → IfAccepted (put_judgement rows when drawn put) (λ change. is_none change ≡ put_repeat rows when.moment drawn put)
put_repeats rows when drawn put = of_repeats rows when (put_call drawn put)

-- ---- the change

current_last : (labels : List (List ℕ)) → is_among (labels ++ aws_current ∷ []) aws_current ≡ true
current_last [] = grind (arith, same_text_itself aws_current)
current_last (t ∷ ts) = or_right (same_text t aws_current) _ (current_last ts)

will_have : (row : SecretRow) (asked : List (List ℕ)) → will_have_current row (labels_placed row asked) ≡ true
will_have row asked = by (is_some (holder row.labels aws_current))
  where
    by : (held : Bool) → (held || is_among (cond held asked (asked ++ aws_current ∷ [])) aws_current) ≡ true
    by true = refl
    by false = current_last asked

on_change : (rows : Rows) (when : When) (call : PutCall) (row : SecretRow) → Sound rows → IsTrue (is_date when.moment)
    → IsTrue (is_small call.value.value) → found rows when.moment call.id ≡ Some row
    → IfChange (put_on row when call) (OnRow rows when call.id (put_into call when.moment))
on_change rows when call row sound date small e =
    let new : NewValue = call.value in
    let labels : List (List ℕ) = labels_placed row call.labels in
    let same = put_same_secret row new.token new.value labels when.moment in
    judged_change row new labels when
    (λ after. put_accepted (finished_row after when) new.token) (put_repeated row new.token)
    (OnRow rows when call.id (put_into call when.moment))
    (λ added. found_change rows when call.id (put_into call when.moment) row sound date e (record {
      serial = same.0;
      name = same.1;
      arn = same.2;
      sound = put_sound row new.token new.value labels when added (will_have row call.labels) small date
          (found_row_sound rows when.moment call.id row sound e);
      few = put_counted row new.token new.value labels when added
          (found_row_few rows when.moment call.id row sound e);
    }))
    tt

of_change : (rows : Rows) (when : When) (put : PutSecretValue) (value : Option NewValue) → Sound rows
    → IsTrue (is_date when.moment)
    → IfSome value (λ new. IsTrue (is_small new.value))
    → IfChange (put_judgement_of rows when (put_call_with put value))
    (IsChange rows when.moment (settled (put_effect_of (sweep rows when.moment) when (put_call_with put value))))
of_change rows when put None sound date small = tt
of_change rows when put (Some value) sound date small =
    on_secret_change (found rows when.moment (secret_id put.secret_id)) _ _
    (λ row e. on_change rows when _ row sound date small e)

-- a change is the entry's
pub put_change : (rows : Rows) (when : When) (drawn : List ℕ) (put : PutSecretValue) → Sound rows
    → IsTrue (is_date when.moment)
    → put_forms put ≡ None
    → IfChange (put_judgement rows when drawn put) (IsChange rows when.moment
    (settled (put_effect (sweep rows when.moment) when drawn put)))
put_change rows when drawn put sound date forms =
    of_change rows when put (put_value drawn put) sound date
    (new_small _ (value_of put.secret_string put.secret_binary)
    (value_small put.secret_string put.secret_binary (put_text put forms) (put_binary put forms)))
