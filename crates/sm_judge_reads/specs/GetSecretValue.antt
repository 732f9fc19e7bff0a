-- GetSecretValue: its tests on the rows and its reply. It changes nothing.
-- AWS Secrets Manager API Reference, GetSecretValue.
use Rattle.std.specs.Prelude.{ℕ, Bool, true, false, is_some, is_none, if◌then◌else◌, List, [], ◌∷◌, Option, Some, None}
use Rattle.sm_base.specs.declared.moment.Moment.{Moment}
use Rattle.sm_base.specs.SecretId.{secret_id}
use Rattle.sm_model.specs.declared.reply.GotSecret.{GotSecret}
use Rattle.sm_model.specs.declared.reply.Reply.TheVariants as replies
use Rattle.sm_model.specs.declared.request.GetSecretValue.{GetSecretValue}
use Rattle.sm_model.specs.declared.rows.Rows.{Rows}
use Rattle.sm_model.specs.declared.rows.SecretRow.{SecretRow}
use Rattle.sm_model.specs.declared.rows.VersionRow.{VersionRow}
use Rattle.sm_model.specs.declared.value.Value.{Value}
use Rattle.sm_model.specs.declared.value.Value.TheVariants as values
use Rattle.sm_model.specs.declared.why.Why.{Why}
use Rattle.sm_model.specs.declared.why.Why.TheVariants.{NoVersion, Differ}
use Rattle.sm_versions.specs.Find.{Lookup, here, nowhere, apart, lookup}
use Rattle.sm_table.specs.Found.{found}
use Rattle.sm_judge_common.specs.declared.judged.Judged.{Judged}
use Rattle.sm_judge_common.specs.declared.judged.Judged.TheVariants.{Accept, Refuse}
use Rattle.sm_judge_common.specs.LabelsShown.{labels_shown}
use Rattle.sm_judge_common.specs.Refusals.{refuse_if, first_refusal, refusal_at}
use Rattle.sm_judge_common.specs.Secrets.{with_secret}
use Rattle.sm_judge_reads.specs.declared.get_secret_value.GetCall.{GetCall}

-- ---- the members

abbrev pub get_call : GetSecretValue → GetCall
get_call get = record { id = secret_id get.secret_id; label = get.version_stage; version = get.version_id }

-- ---- the reply

abbrev pub text_of : Option Value → Option (List ℕ)
text_of None = None
text_of (Some (values.Text text)) = Some text
text_of (Some (values.Bytes bytes)) = None

abbrev pub bytes_of : Option Value → Option (List ℕ)
bytes_of None = None
bytes_of (Some (values.Text text)) = None
bytes_of (Some (values.Bytes bytes)) = Some bytes

abbrev pub got_secret : SecretRow → VersionRow → GotSecret
got_secret row version = record {
  arn = row.arn;
  created_date = version.made;
  name = row.name;
  secret_binary = bytes_of version.value;
  secret_string = text_of version.value;
  version_id = version.id;
  version_stages = labels_shown row version.id;
}

-- ---- the judgement

abbrev pub get_version : SecretRow → VersionRow → Judged
get_version row version =
    if is_some version.value then Accept (replies.GetSecretValue (got_secret row version)) None else Refuse NoVersion

abbrev pub get_found : SecretRow → Lookup → Judged
get_found row (here version) = get_version row version
get_found row nowhere = Refuse NoVersion
get_found row apart = Refuse Differ

abbrev pub get_on : SecretRow → GetCall → Judged
get_on row call = get_found row (lookup row call.version call.label)

abbrev pub get_judged : Rows → Moment → GetCall → Judged
get_judged rows moment call = with_secret rows moment call.id (λ row. get_on row call)

abbrev pub get_judgement : Rows → Moment → GetSecretValue → Judged
get_judgement rows moment get = get_judged rows moment (get_call get)

-- ---- when it is refused

abbrev pub is_nowhere : Lookup → Bool
is_nowhere (here version) = false
is_nowhere nowhere = true
is_nowhere apart = false

abbrev pub is_apart : Lookup → Bool
is_apart (here version) = false
is_apart nowhere = false
is_apart apart = true

abbrev pub is_empty : Lookup → Bool
is_empty (here version) = is_none version.value
is_empty nowhere = false
is_empty apart = false

-- the version that is named has to be there, by one name or by both, and to have a value
abbrev pub get_refusal_on : SecretRow → GetCall → Option Why
get_refusal_on row call =
    let version = lookup row call.version call.label in
    first_refusal
    (refuse_if (is_nowhere version) NoVersion ∷ refuse_if (is_apart version) Differ
    ∷ refuse_if (is_empty version) NoVersion ∷ [])

abbrev pub get_refusal : Rows → Moment → GetSecretValue → Option Why
get_refusal rows moment get =
    refusal_at (found rows moment (secret_id get.secret_id)) (λ row. get_refusal_on row (get_call get))
