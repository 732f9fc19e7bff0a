-- A value that a request gives for a secret, under its token, and what putting it into the secret comes to.
-- AWS Secrets Manager API Reference: CreateSecret, PutSecretValue and UpdateSecret (ClientRequestToken, SecretString,
-- SecretBinary); User Guide, "AWS Secrets Manager quotas".
use Rattle.std.specs.Prelude.{ℕ, Bool, false, not, ◌&&◌, is_none, List, [], ◌∷◌, Option, Some, None}
use Rattle.sm_model.specs.Versions.{When, is_full_when}
use Rattle.sm_base.specs.declared.limits.TheConstants.{VERSIONS_LIMIT, LABELS_LIMIT}
use Rattle.sm_model.specs.declared.reply.VersionedSecret.{VersionedSecret}
use Rattle.sm_model.specs.declared.rows.SecretRow.{SecretRow}
use Rattle.sm_model.specs.declared.rows.VersionRow.{VersionRow}
use Rattle.sm_model.specs.declared.value.Value.{Value}
use Rattle.sm_model.specs.declared.why.What.TheVariants.{Versions, Labels}
use Rattle.sm_model.specs.declared.why.Why.{Why}
use Rattle.sm_model.specs.declared.why.Why.TheVariants.{OtherValue, Limit, Memory}
use Rattle.sm_versions.specs.declared.values.PutDone.{PutDone}
use Rattle.sm_versions.specs.declared.values.PutDone.TheVariants as puts
use Rattle.sm_versions.specs.Labels.{place_all}
use Rattle.sm_versions.specs.Versions.{version_of, same_value, same}
use Rattle.sm_versions.specs.Put.{has_too_many, put_answer, put_row}
use Rattle.sm_judge_common.specs.declared.judged.Judged.{Judged}
use Rattle.sm_judge_common.specs.declared.judged.Judged.TheVariants.{Refuse}
use Rattle.sm_judge_common.specs.Members.{token_or_drawn, value_of}
use Rattle.sm_judge_common.specs.Refusals.{refuse_if, first_refusal}
use Rattle.sm_judge_values.specs.declared.new_value.NewValue.{NewValue}
use Rattle.sm_judge_values.specs.declared.new_value.Placed.{Placed}
use Rattle.sm_judge_values.specs.declared.new_value.Placed.TheVariants.{Added, Repeat, Refused}

-- ---- the members

abbrev pub under_token : List ℕ → Option Value → Option NewValue
under_token token None = None
under_token token (Some value) = Some (record { token = token; value = value })

-- the value that a request gives, if it gives one, under its token, which is drawn where none is given
abbrev pub new_value : Option (List ℕ) → List ℕ → Option (List ℕ) → Option (List ℕ) → Option NewValue
new_value token drawn text binary = under_token (token_or_drawn token drawn) (value_of text binary)

abbrev pub token_of : Option NewValue → Option (List ℕ)
token_of None = None
token_of (Some new) = Some new.token

-- the reply that names the secret, and the version where a value was given
abbrev pub versioned_secret : SecretRow → Option (List ℕ) → VersionedSecret
versioned_secret row version_id = record { arn = row.arn; name = row.name; version_id = version_id }

-- ---- putting it into a secret

-- by what putting the value answers, which is never lack of memory
abbrev pub placed_by : PutDone → SecretRow → List ℕ → Placed
placed_by puts.Added after token = Added after
placed_by (puts.Same labels) after token = Repeat
placed_by puts.Exists after token = Refused (OtherValue token)
placed_by (puts.TooMany limit) after token = Refused (Limit limit Versions)
placed_by (puts.TooManyLabels limit) after token = Refused (Limit limit Labels)
placed_by puts.Memory after token = Refused Memory

-- the value put into the secret, with these labels
abbrev pub placed : SecretRow → NewValue → List (List ℕ) → When → Placed
placed row new labels when =
    placed_by (put_answer row new.token new.value labels when) (put_row row new.token new.value labels when.moment)
    new.token

-- the judgement by what putting the value comes to
abbrev pub judged_by : Placed → (SecretRow → Judged) → Judged → Judged
judged_by (Added after) accept repeat = accept after
judged_by Repeat accept repeat = repeat
judged_by (Refused why) accept repeat = Refuse why

-- ---- when it is a repeat, when it is refused

-- the version of the token has exactly the value
abbrev pub is_repeat : SecretRow → Option NewValue → Bool
is_repeat row None = false
is_repeat row (Some new) = same row new.token new.value

-- the version has another value
abbrev pub is_other : Option Value → Value → Bool
is_other None value = false
is_other (Some kept) value = not (same_value kept value)

abbrev pub has_other_value : Option VersionRow → Value → Bool
has_other_value None value = false
has_other_value (Some version) value = is_other version.value value

-- The token's version has no other value; where there is none, one may be added then; and where the value is not there
-- yet, at most 20 labels besides those of AWS stand on the secret's versions after it.
abbrev pub value_refusal : SecretRow → NewValue → List (List ℕ) → When → Option Why
value_refusal row new labels when =
    let version = version_of row.versions new.token in
    first_refusal
    (refuse_if (has_other_value version new.value) (OtherValue new.token)
    ∷ refuse_if (is_none version && is_full_when row when) (Limit VERSIONS_LIMIT Versions)
    ∷ refuse_if (not (same row new.token new.value) && has_too_many (place_all row.labels labels new.token))
    (Limit LABELS_LIMIT Labels)
    ∷ [])
