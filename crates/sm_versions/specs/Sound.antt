-- What holds of one secret between any two changes, all of it: the labels and versions, and that each text, value,
-- number, date, schedule, policy and region fits.
-- AWS Secrets Manager User Guide: "AWS Secrets Manager quotas"; API Reference: SecretListEntry (ARN), RotationRulesType
-- (ScheduleExpression).
use Rattle.std.specs.Prelude.{ℕ, ◌≤◌, Bool, true, ◌&&◌, nat_eq, List, [], ◌∷◌, ◌++◌, length, drop, codes, IsTrue}
use Rattle.std.specs.List.{starts_with}
use Rattle.std.specs.Char.{is_ascii_alphanumeric}
use Rattle.sm_base.specs.Spelling.{is_run}
use Rattle.sm_base.specs.declared.limits.TheConstants.{VERSIONS_LIMIT, LABELS_LIMIT, TAGS_LIMIT}
use Rattle.sm_model.specs.declared.value.Tag.{Tag}
use Rattle.sm_model.specs.declared.rows.VersionRow.{VersionRow}
use Rattle.sm_model.specs.declared.rows.Job.{Job}
use Rattle.sm_model.specs.declared.rows.Rotation.{Rotation}
use Rattle.sm_model.specs.declared.rows.SecretRow.{SecretRow}
use Rattle.sm_policy_text.specs.Documents.{is_resource_policy}
use Rattle.sm_cron.specs.Spelling.{is_schedule_expression}
use Rattle.sm_model.specs.Bounds.{fits, is_description, is_small, is_tag, is_attempt, are_days, is_date, is_rotation_date}
use Rattle.sm_versions.specs.Texts.{once}
use Rattle.sm_versions.specs.Labels.{own_count}
use Rattle.sm_versions.specs.Regions.{are_regions}
use Rattle.sm_versions.specs.Kept.{KeptUnsettled, CurrentKept}

-- what the ARNs of all secrets of a name begin with
unfoldable pub arn_beginning : List ℕ → List ℕ
arn_beginning name = codes "arn:aws:secretsmanager:us-east-1:000000000000:secret:" ++ (name ++ codes "-")

-- the ARN is one that a secret of this name may have: behind its beginning stand six letters or digits
abbrev pub is_arn_of : List ℕ → List ℕ → Bool
is_arn_of arn name =
    starts_with nat_eq arn (arn_beginning name)
    && is_run is_ascii_alphanumeric 6 6 (drop (length (arn_beginning name)) arn)

abbrev pub IsArnOf : List ℕ → List ℕ → Type 0
IsArnOf arn name = IsTrue (is_arn_of arn name)

abbrev pub tag_keys : List Tag → List (List ℕ)
tag_keys [] = []
tag_keys (tag ∷ tags) = tag.key ∷ tag_keys tags

abbrev pub each_tag : List Tag → Bool
each_tag [] = true
each_tag (tag ∷ tags) = is_tag tag && each_tag tags

-- a value, the attempt at which it was tested, and when it was made
abbrev pub is_version : VersionRow → Bool
is_version version = fits is_small version.value && fits is_attempt version.rotated && is_date version.made

abbrev pub each_version : List VersionRow → Bool
each_version [] = true
each_version (version ∷ versions) = is_version version && each_version versions

abbrev pub is_rotation : Rotation → Bool
is_rotation rotation =
    fits is_description rotation.lambda && fits are_days rotation.days
    && fits is_schedule_expression rotation.schedule && fits is_rotation_date rotation.next
    && fits is_date rotation.last

abbrev pub is_job : Job → Bool
is_job job = fits is_attempt job.tested && is_date job.retry_at

-- each part of a secret fits, whatever its labels are on
pub record RowFits (row : SecretRow) : Type 0 where
  pub arn : IsArnOf row.arn row.name
  pub description : IsTrue (fits is_description row.description)
  pub kms : IsTrue (fits is_description row.kms)
  pub tag_count : length row.tags ≤ TAGS_LIMIT
  pub tags : IsTrue (each_tag row.tags)
  pub tag_once : IsTrue (once (tag_keys row.tags))
  pub policy : IsTrue (fits is_resource_policy row.policy)
  pub versions : IsTrue (each_version row.versions)
  pub labels : own_count row.labels ≤ LABELS_LIMIT
  pub created : IsTrue (is_date row.created)
  pub changed : IsTrue (is_date row.changed)
  pub deletion : IsTrue (fits is_date row.deletion)
  pub rotation : IsTrue (is_rotation row.rotation)
  pub regions : IsTrue (are_regions row.regions)
  pub job : IsTrue (fits is_job row.job)

-- what each step of a change keeps, be there as many versions as there may be, or one more until some are dropped
pub record UnsettledSound (row : SecretRow) : Type 0 where
  pub kept : KeptUnsettled row
  pub fits : RowFits row

-- what holds of a secret between any two changes
pub record RowSound (row : SecretRow) : Type 0 where
  pub kept : CurrentKept row
  pub fits : RowFits row
  pub version_count : length row.versions ≤ VERSIONS_LIMIT
