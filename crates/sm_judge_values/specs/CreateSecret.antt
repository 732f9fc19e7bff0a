-- CreateSecret: its tests on the rows, its reply, what it changes.
-- AWS Secrets Manager API Reference, CreateSecret; User Guide, "What's in a Secrets Manager secret?" and "AWS Secrets
-- Manager quotas".
use Rattle.std.specs.Prelude.{ℕ, ◌+◌, Bool, false, not, ◌||◌, nat_le, nat_lt, if◌then◌else◌, List, [], ◌∷◌, ◌++◌, length, take, drop, Option, Some, None, unwrap_or}
use Rattle.sm_base.specs.declared.moment.Moment.{Moment}
use Rattle.sm_base.specs.Drawn.{drawn_arn}
use Rattle.sm_model.specs.declared.entry.Change.TheVariants as changes
use Rattle.sm_base.specs.declared.limits.TheConstants.{SECRETS_LIMIT, TAGS_LIMIT, NO_SERIAL}
use Rattle.sm_model.specs.declared.reply.CreatedSecret.{CreatedSecret}
use Rattle.sm_model.specs.declared.reply.Reply.TheVariants as replies
use Rattle.sm_model.specs.declared.request.CreateSecret.{CreateSecret}
use Rattle.sm_model.specs.declared.request.Request.TheVariants as requests
use Rattle.sm_model.specs.declared.rows.Rotation.{Rotation}
use Rattle.sm_model.specs.declared.rows.Rows.{Rows}
use Rattle.sm_model.specs.declared.rows.SecretRow.{SecretRow}
use Rattle.sm_model.specs.declared.rows.VersionRow.{VersionRow}
use Rattle.sm_model.specs.declared.value.Tag.{Tag}
use Rattle.sm_model.specs.declared.why.What.TheVariants.{Secrets, Tags}
use Rattle.sm_model.specs.declared.why.Why.{Why}
use Rattle.sm_model.specs.declared.why.Why.TheVariants.{SecretExists, Limit}
use Rattle.sm_model.specs.Needed.{needed}
use Rattle.sm_model.specs.Labels.{aws_current}
use Rattle.sm_versions.specs.Versions.{same}
use Rattle.sm_table.specs.Sweep.{swept}
use Rattle.sm_table.specs.Found.{row_named}
use Rattle.sm_judge_common.specs.declared.judged.Judged.{Judged}
use Rattle.sm_judge_common.specs.declared.judged.Judged.TheVariants.{Accept, Refuse}
use Rattle.sm_judge_common.specs.Refusals.{refuse_if, first_refusal, scheduled_refusal}
use Rattle.sm_judge_common.specs.Regions.{with_regions, replicas_shown}
use Rattle.sm_judge_common.specs.Secrets.{unless_scheduled}
use Rattle.sm_judge_values.specs.declared.new_value.NewValue.{NewValue}
use Rattle.sm_judge_values.specs.declared.create_secret.Names.{Names}
use Rattle.sm_judge_values.specs.declared.create_secret.Details.{Details}
use Rattle.sm_judge_values.specs.declared.create_secret.CreateCall.{CreateCall}
use Rattle.sm_judge_values.specs.NewValue.{new_value, token_of, is_repeat}

-- ---- the members

-- how many random bytes are drawn for a new secret
abbrev pub create_needs : CreateSecret → ℕ
create_needs create = needed (requests.CreateSecret create)

-- the value that a secret begins with; the bytes of its token stand behind the six of the ARN
abbrev pub first_of : List ℕ → CreateSecret → Option NewValue
first_of drawn create =
    new_value create.client_request_token (drop 6 drawn) create.secret_string create.secret_binary

-- the ARN ends in the characters of the first six bytes
abbrev pub names_of : List ℕ → CreateSecret → Names
names_of drawn create = record { arn = drawn_arn create.name (take 6 drawn); name = create.name }

abbrev pub details_of : CreateSecret → Details
details_of create = record {
  description = create.description;
  kms = create.kms_key_id;
  tags = unwrap_or create.tags [];
  regions = with_regions [] create.regions;
}

abbrev pub create_call : List ℕ → CreateSecret → CreateCall
create_call drawn create = record {
  names = names_of drawn create;
  details = details_of create;
  first = first_of drawn
      create;
}

-- ---- the row and the reply

-- a secret's first version
abbrev pub first_version : Moment → NewValue → VersionRow
first_version moment first = record {
  id = first.token;
  serial = 0;
  made = moment;
  value = Some first.value;
  rotated = None;
  by_rotation = false;
}

abbrev pub no_rotation : Rotation
no_rotation = record { enabled = false; lambda = None; days = None; schedule = None; next = None; last = None }

-- the row of a new secret, without a version
abbrev pub empty_row : ℕ → Moment → Names → Details → SecretRow
empty_row serial moment names details = record {
  serial = serial;
  arn = names.arn;
  name = names.name;
  created = moment;
  changed = moment;
  description = details.description;
  kms = details.kms;
  tags = details.tags;
  versions = [];
  next_version = 0;
  labels = [];
  deletion = None;
  rotation = no_rotation;
  policy = None;
  regions = details.regions;
  job = None;
}

-- the row with its first version, which is the current one, where there is a value
abbrev pub with_first : SecretRow → Moment → Option NewValue → SecretRow
with_first row moment None = row
with_first row moment (Some first) = record row {
  versions = first_version moment first ∷ [];
  next_version = 1;
  labels = record { label = aws_current; id = first.token } ∷ [];
}

-- the row of a new secret
abbrev pub created_row : ℕ → Moment → CreateCall → SecretRow
created_row serial moment call = with_first (empty_row serial moment call.names call.details) moment call.first

-- the reply that names the secret, its replica regions where it has some, and the version where a value was given
abbrev pub created_secret : SecretRow → Option (List ℕ) → CreatedSecret
created_secret row version_id = record {
  arn = row.arn;
  name = row.name;
  replication_status = replicas_shown row.regions;
  version_id = version_id;
}

-- ---- the judgement

-- there are more tags than a secret may have
abbrev pub has_too_many_tags : List Tag → Bool
has_too_many_tags tags = nat_lt TAGS_LIMIT (length tags)

-- no secret can be added: there are 10,000 that are not past their deletion date, or no serial is left
abbrev pub is_full : Rows → Moment → Bool
is_full rows moment = nat_le SECRETS_LIMIT (length (swept rows.secrets moment)) || nat_le NO_SERIAL rows.next

abbrev pub create_with_room : Rows → Moment → CreateCall → Judged
create_with_room rows moment call =
    let row = created_row rows.next moment call in
    Accept (replies.CreateSecret (created_secret row (token_of call.first))) (Some (changes.Add row))

abbrev pub create_new : Rows → Moment → CreateCall → Judged
create_new rows moment call =
    if has_too_many_tags call.details.tags then Refuse (Limit TAGS_LIMIT Tags)
    else if is_full rows moment then Refuse (Limit SECRETS_LIMIT Secrets)
    else create_with_room rows moment call

-- the name is held: accepted again where the token's version has exactly the value
abbrev pub create_held : SecretRow → CreateCall → Judged
create_held row call =
    if is_repeat row call.first then Accept (replies.CreateSecret (created_secret row (token_of call.first))) None
    else Refuse (SecretExists call.names.name)

abbrev pub create_on : Option SecretRow → Rows → Moment → CreateCall → Judged
create_on None rows moment call = create_new rows moment call
create_on (Some row) rows moment call = unless_scheduled row.deletion (create_held row call)

abbrev pub create_judged : Rows → Moment → CreateCall → Judged
create_judged rows moment call = create_on (row_named (swept rows.secrets moment) call.names.name) rows moment call

abbrev pub create_judgement : Rows → Moment → List ℕ → CreateSecret → Judged
create_judgement rows moment drawn create = create_judged rows moment (create_call drawn create)

-- ---- when it is refused, when it is a repeat, what it does to the rows

-- the name is held by a secret whose version of the token has exactly the value
abbrev pub holds_same : Option SecretRow → Option NewValue → Bool
holds_same None first = false
holds_same (Some row) None = false
holds_same (Some row) (Some first) = same row first.token first.value

abbrev pub create_repeat : Rows → Moment → List ℕ → CreateSecret → Bool
create_repeat rows moment drawn create = holds_same (row_named (swept rows.secrets moment) create.name)
    (first_of drawn create)

-- a held name has to be that of a repeat, and is not scheduled for deletion; another one has at most 50 tags and needs
-- room
abbrev pub create_refusal_on : Option SecretRow → Rows → Moment → CreateCall → Option Why
create_refusal_on None rows moment call = first_refusal
    (refuse_if (has_too_many_tags call.details.tags) (Limit TAGS_LIMIT Tags)
    ∷ refuse_if (is_full rows moment) (Limit SECRETS_LIMIT Secrets) ∷ [])
create_refusal_on (Some row) rows moment call =
    first_refusal
    (scheduled_refusal row.deletion ∷ refuse_if (not (holds_same (Some row) call.first)) (SecretExists call.names.name)
    ∷ [])

abbrev pub create_refusal : Rows → Moment → List ℕ → CreateSecret → Option Why
create_refusal rows moment drawn create =
    create_refusal_on (row_named (swept rows.secrets moment) create.name) rows moment (create_call drawn create)

-- a row more, of those that are still there
abbrev pub create_effect : Rows → Moment → List ℕ → CreateSecret → Rows
create_effect rows moment drawn create =
    record {
      next = rows.next + 1;
      secrets = rows.secrets ++ created_row rows.next moment (create_call drawn create)
          ∷ [];
    }
