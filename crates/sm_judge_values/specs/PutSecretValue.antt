-- PutSecretValue: its tests on the rows, its reply, what it changes.
-- AWS Secrets Manager API Reference, PutSecretValue.
use Rattle.std.specs.Prelude.{ℕ, Bool, false, is_some, if◌then◌else◌, List, [], ◌∷◌, ◌++◌, Option, Some, None, codes}
use Rattle.sm_base.specs.declared.moment.Moment.{Moment}
use Rattle.sm_base.specs.SecretId.{secret_id}
use Rattle.sm_model.specs.declared.entry.Change.TheVariants as changes
use Rattle.sm_model.specs.declared.reply.PutValue.{PutValue}
use Rattle.sm_model.specs.declared.reply.Reply.TheVariants as replies
use Rattle.sm_model.specs.declared.request.PutSecretValue.{PutSecretValue}
use Rattle.sm_model.specs.declared.rows.Rows.{Rows}
use Rattle.sm_model.specs.declared.rows.SecretRow.{SecretRow}
use Rattle.sm_model.specs.declared.why.Why.{Why}
use Rattle.sm_model.specs.declared.why.Why.TheVariants.{Form}
use Rattle.sm_model.specs.Labels.{aws_current, holder}
use Rattle.sm_model.specs.Versions.{When}
use Rattle.sm_versions.specs.Versions.{same}
use Rattle.sm_versions.specs.Put.{put_row}
use Rattle.sm_table.specs.Found.{found}
use Rattle.sm_judge_common.specs.declared.judged.Judged.{Judged}
use Rattle.sm_judge_common.specs.declared.judged.Judged.TheVariants.{Accept, Refuse}
use Rattle.sm_judge_common.specs.Changes.{change_named}
use Rattle.sm_judge_common.specs.LabelsShown.{labels_shown}
use Rattle.sm_judge_common.specs.Refusals.{refusal_at, repeat_at}
use Rattle.sm_judge_common.specs.Secrets.{with_secret, finished_row}
use Rattle.sm_judge_values.specs.declared.new_value.NewValue.{NewValue}
use Rattle.sm_judge_values.specs.declared.put_secret_value.PutCall.{PutCall}
use Rattle.sm_judge_values.specs.NewValue.{new_value, placed, judged_by, value_refusal}

-- ---- the members

-- the labels that are asked for, or AWSCURRENT alone
abbrev pub labels_asked : Option (List (List ℕ)) → List (List ℕ)
labels_asked None = aws_current ∷ []
labels_asked (Some labels) = labels

-- the value that is given, under its token
abbrev pub put_value : List ℕ → PutSecretValue → Option NewValue
put_value drawn put = new_value put.client_request_token drawn put.secret_string put.secret_binary

abbrev pub put_call_with : PutSecretValue → Option NewValue → Option PutCall
put_call_with put None = None
put_call_with put (Some value) = Some (record {
  id = secret_id put.secret_id;
  labels = labels_asked put.version_stages;
  value = value;
})

-- the members, where there is a value
abbrev pub put_call : List ℕ → PutSecretValue → Option PutCall
put_call drawn put = put_call_with put (put_value drawn put)

-- ---- the row and the reply

-- AWSCURRENT is placed too where no version holds it
abbrev pub labels_placed : SecretRow → List (List ℕ) → List (List ℕ)
labels_placed row asked = if is_some (holder row.labels aws_current) then asked else asked ++ aws_current ∷ []

-- the row with the value under the token
abbrev pub put_into : PutCall → Moment → SecretRow → SecretRow
put_into call moment row = put_row row call.value.token call.value.value (labels_placed row call.labels) moment

abbrev pub put_reply : SecretRow → List ℕ → PutValue
put_reply row token = record {
  arn = row.arn;
  name = row.name;
  version_id = token;
  version_stages = labels_shown row
      token;
}

-- ---- the judgement

-- the row takes the place of the old one
abbrev pub put_accepted : SecretRow → List ℕ → Judged
put_accepted row token = Accept (replies.PutSecretValue (put_reply row token)) (Some (changes.Replace row))

-- a repeat is answered with the labels of the moment
abbrev pub put_repeated : SecretRow → List ℕ → Judged
put_repeated row token = Accept (replies.PutSecretValue (put_reply row token)) None

abbrev pub put_on : SecretRow → When → PutCall → Judged
put_on row when call =
    judged_by (placed row call.value (labels_placed row call.labels) when)
    (λ after. put_accepted (finished_row after when) call.value.token) (put_repeated row call.value.token)

abbrev pub put_judged : Rows → When → PutCall → Judged
put_judged rows when call = with_secret rows when.moment call.id (λ row. put_on row when call)

-- a request without a value is refused as its forms refuse it
abbrev pub put_judgement_of : Rows → When → Option PutCall → Judged
put_judgement_of rows when None = Refuse (Form (codes "SecretString"))
put_judgement_of rows when (Some call) = put_judged rows when call

abbrev pub put_judgement : Rows → When → List ℕ → PutSecretValue → Judged
put_judgement rows when drawn put = put_judgement_of rows when (put_call drawn put)

-- ---- when it is refused, when it is a repeat, what it does to the rows

abbrev pub put_refusal_on : SecretRow → When → PutCall → Option Why
put_refusal_on row when call = value_refusal row call.value (labels_placed row call.labels) when

abbrev pub put_refusal_of : Rows → When → Option PutCall → Option Why
put_refusal_of rows when None = Some (Form (codes "SecretString"))
put_refusal_of rows when (Some call) = refusal_at (found rows when.moment call.id) (λ row. put_refusal_on row when call)

abbrev pub put_refusal : Rows → When → List ℕ → PutSecretValue → Option Why
put_refusal rows when drawn put = put_refusal_of rows when (put_call drawn put)

-- the secret's version of the token has exactly the value
abbrev pub put_repeat_of : Rows → Moment → Option PutCall → Bool
put_repeat_of rows moment None = false
put_repeat_of rows moment (Some call) =
    repeat_at (found rows moment call.id) (λ row. same row call.value.token call.value.value)

abbrev pub put_repeat : Rows → Moment → List ℕ → PutSecretValue → Bool
put_repeat rows moment drawn put = put_repeat_of rows moment (put_call drawn put)

-- the secret's row with the value, among those that are still there
abbrev pub put_effect_of : Rows → When → Option PutCall → Rows
put_effect_of rows when None = rows
put_effect_of rows when (Some call) = change_named rows call.id when (put_into call when.moment)

abbrev pub put_effect : Rows → When → List ℕ → PutSecretValue → Rows
put_effect rows when drawn put = put_effect_of rows when (put_call drawn put)
