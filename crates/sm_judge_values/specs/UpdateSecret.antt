-- UpdateSecret: its tests on the rows, its reply, what it changes.
-- AWS Secrets Manager API Reference, UpdateSecret.
use Rattle.std.specs.Prelude.{ℕ, Bool, List, [], ◌∷◌, Option, Some, None}
use Rattle.sm_base.specs.declared.moment.Moment.{Moment}
use Rattle.sm_base.specs.SecretId.{secret_id}
use Rattle.sm_model.specs.declared.entry.Change.TheVariants as changes
use Rattle.sm_model.specs.declared.reply.Reply.TheVariants as replies
use Rattle.sm_model.specs.declared.request.UpdateSecret.{UpdateSecret}
use Rattle.sm_model.specs.declared.rows.Rows.{Rows}
use Rattle.sm_model.specs.declared.rows.SecretRow.{SecretRow}
use Rattle.sm_model.specs.declared.why.Why.{Why}
use Rattle.sm_model.specs.Labels.{aws_current}
use Rattle.sm_model.specs.Versions.{When}
use Rattle.sm_versions.specs.Put.{put_row}
use Rattle.sm_table.specs.Found.{found}
use Rattle.sm_judge_common.specs.declared.judged.Judged.{Judged}
use Rattle.sm_judge_common.specs.declared.judged.Judged.TheVariants.{Accept}
use Rattle.sm_judge_common.specs.Changes.{change_named}
use Rattle.sm_judge_common.specs.Refusals.{refusal_at, repeat_at}
use Rattle.sm_judge_common.specs.Secrets.{with_secret, finished_row}
use Rattle.sm_judge_values.specs.declared.new_value.NewValue.{NewValue}
use Rattle.sm_judge_values.specs.declared.new_value.Placed.{Placed}
use Rattle.sm_judge_values.specs.declared.new_value.Placed.TheVariants.{Added}
use Rattle.sm_judge_values.specs.declared.update_secret.UpdateCall.{UpdateCall}
use Rattle.sm_judge_values.specs.NewValue.{new_value, token_of, versioned_secret, placed, judged_by, is_repeat, value_refusal}

-- ---- the members

abbrev pub update_call : List ℕ → UpdateSecret → UpdateCall
update_call drawn update = record {
  id = secret_id update.secret_id;
  description = update.description;
  kms = update.kms_key_id;
  value = new_value update.client_request_token drawn update.secret_string update.secret_binary;
}

-- ---- the row and the reply

-- a text that is given replaces the one that is kept
abbrev pub given_or : Option (List ℕ) → Option (List ℕ) → Option (List ℕ)
given_or None kept = kept
given_or (Some given) kept = Some given

-- the row with the description and the KMS key id that are given
abbrev pub redescribed : UpdateCall → SecretRow → SecretRow
redescribed call row =
    record row { description = given_or call.description row.description; kms = given_or call.kms row.kms }

-- the row with the value under its token, where one is given: its version is the current one
abbrev pub with_value : Option NewValue → Moment → SecretRow → SecretRow
with_value None moment row = row
with_value (Some new) moment row = put_row row new.token new.value (aws_current ∷ []) moment

abbrev pub update_into : UpdateCall → Moment → SecretRow → SecretRow
update_into call moment row = redescribed call (with_value call.value moment row)

-- ---- the judgement

-- what putting the value comes to, where one is given
abbrev pub update_placed : Option NewValue → SecretRow → When → Placed
update_placed None row when = Added row
update_placed (Some new) row when = placed row new (aws_current ∷ []) when

-- the row takes the place of the old one
abbrev pub update_accepted : SecretRow → Option (List ℕ) → Judged
update_accepted row version_id =
    Accept (replies.UpdateSecret (versioned_secret row version_id)) (Some (changes.Replace row))

-- in a repeat the description and the KMS key id count for nothing
abbrev pub update_repeated : SecretRow → Option (List ℕ) → Judged
update_repeated row version_id = Accept (replies.UpdateSecret (versioned_secret row version_id)) None

abbrev pub update_on : SecretRow → When → UpdateCall → Judged
update_on row when call =
    judged_by (update_placed call.value row when)
    (λ after. update_accepted (finished_row (redescribed call after) when) (token_of call.value))
    (update_repeated row (token_of call.value))

abbrev pub update_judged : Rows → When → UpdateCall → Judged
update_judged rows when call = with_secret rows when.moment call.id (λ row. update_on row when call)

abbrev pub update_judgement : Rows → When → List ℕ → UpdateSecret → Judged
update_judgement rows when drawn update = update_judged rows when (update_call drawn update)

-- ---- when it is refused, when it is a repeat, what it does to the rows

-- the tests of a value, where one is given
abbrev pub update_refusal_on : SecretRow → When → Option NewValue → Option Why
update_refusal_on row when None = None
update_refusal_on row when (Some new) = value_refusal row new (aws_current ∷ []) when

abbrev pub update_refusal : Rows → When → List ℕ → UpdateSecret → Option Why
update_refusal rows when drawn update =
    refusal_at (found rows when.moment (secret_id update.secret_id))
    (λ row. update_refusal_on row when (update_call drawn update).value)

-- a value is given, and the secret's version of the token has exactly this value
abbrev pub update_repeat : Rows → Moment → List ℕ → UpdateSecret → Bool
update_repeat rows moment drawn update =
    repeat_at (found rows moment (secret_id update.secret_id)) (λ row. is_repeat row (update_call drawn update).value)

-- the secret's row with what is given, among those that are still there
abbrev pub update_effect : Rows → When → List ℕ → UpdateSecret → Rows
update_effect rows when drawn update =
    change_named rows (secret_id update.secret_id) when (update_into (update_call drawn update) when.moment)
