-- DescribeSecret: its reply. It works on a secret that is scheduled for deletion too, and changes nothing.
-- AWS Secrets Manager API Reference, DescribeSecret, RotationRulesType.
use Rattle.std.specs.Prelude.{ℕ, Bool, ◌||◌, if◌then◌else◌, List, [], ◌∷◌, ◌++◌, Option, Some, None}
use Rattle.std.specs.Option.{is_some}
use Rattle.sm_base.specs.declared.moment.Moment.{Moment}
use Rattle.sm_base.specs.SecretId.{secret_id}
use Rattle.sm_model.specs.declared.reply.Described.{Described}
use Rattle.sm_model.specs.declared.reply.Reply.TheVariants as replies
use Rattle.sm_model.specs.declared.reply.RulesShown.{RulesShown}
use Rattle.sm_model.specs.declared.reply.Staged.{Staged}
use Rattle.sm_model.specs.declared.request.OfSecret.{OfSecret}
use Rattle.sm_model.specs.declared.rows.Rotation.{Rotation}
use Rattle.sm_model.specs.declared.rows.Rows.{Rows}
use Rattle.sm_model.specs.declared.rows.SecretRow.{SecretRow}
use Rattle.sm_model.specs.declared.rows.VersionRow.{VersionRow}
use Rattle.sm_model.specs.declared.why.Why.{Why}
use Rattle.sm_table.specs.Found.{found}
use Rattle.sm_judge_common.specs.declared.judged.Judged.{Judged}
use Rattle.sm_judge_common.specs.declared.judged.Judged.TheVariants.{Accept}
use Rattle.sm_judge_common.specs.LabelsShown.{labels_shown}
use Rattle.sm_judge_common.specs.Refusals.{unless_there}
use Rattle.sm_judge_common.specs.Regions.{replicas_shown}
use Rattle.sm_judge_common.specs.Secrets.{if_there}

-- ---- the reply

-- the version with its labels, where it has one
abbrev pub with_labels : List ℕ → List (List ℕ) → List Staged
with_labels id [] = []
with_labels id (label ∷ labels) = record { id = id; labels = label ∷ labels } ∷ []

-- the versions with a label, in order of creation, each with its labels as they are shown
abbrev pub staged : SecretRow → List VersionRow → List Staged
staged row [] = []
staged row (version ∷ versions) = with_labels version.id (labels_shown row version.id) ++ staged row versions

-- days or a schedule are kept
abbrev pub keeps_rules : Rotation → Bool
keeps_rules rotation = is_some rotation.days || is_some rotation.schedule

-- rotation rules are shown exactly where some are kept, also while rotation is off
abbrev pub rules_shown : Rotation → Option RulesShown
rules_shown rotation =
    if keeps_rules rotation then Some (record { days = rotation.days; schedule = rotation.schedule }) else None

abbrev pub described : SecretRow → Described
described row = record {
  arn = row.arn;
  created_date = row.created;
  deleted_date = row.deletion;
  description = row.description;
  kms_key_id = row.kms;
  last_changed_date = row.changed;
  last_rotated_date = row.rotation.last;
  name = row.name;
  next_rotation_date = row.rotation.next;
  replication_status = replicas_shown row.regions;
  rotation_enabled = row.rotation.enabled;
  rotation_lambda_arn = row.rotation.lambda;
  rotation_rules = rules_shown row.rotation;
  tags = row.tags;
  version_ids_to_stages = staged row row.versions;
}

-- ---- the judgement

abbrev pub describe_on : SecretRow → Judged
describe_on row = Accept (replies.DescribeSecret (described row)) None

abbrev pub describe_judgement : Rows → Moment → OfSecret → Judged
describe_judgement rows moment describe = if_there (found rows moment (secret_id describe.secret_id)) describe_on

-- ---- when it is refused

-- the secret has to be there
abbrev pub describe_refusal : Rows → Moment → OfSecret → Option Why
describe_refusal rows moment describe = unless_there (found rows moment (secret_id describe.secret_id))
