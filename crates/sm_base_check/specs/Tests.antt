-- What is asked of a sound base, as tests.
use Rattle.std.specs.Prelude.{ℕ, ◌++◌, Bool, true, false, not, ◌&&◌, ◌||◌, nat_le, nat_eq, List, [], ◌∷◌, length, drop, codes, Option, Some, None, is_some, if◌then◌else◌}
use Rattle.std.specs.Bool.{beq}
use Rattle.std.specs.Char.{is_ascii_alphanumeric}
use Rattle.std.specs.List.{starts_with}
use Rattle.sm_base.specs.Spelling.{is_run}
use Rattle.sm_base.specs.declared.limits.TheConstants.{SECRETS_LIMIT, VERSIONS_LIMIT, LABELS_LIMIT, TAGS_LIMIT}
use Rattle.sm_base.specs.declared.moment.TheConstants.{LAST_READING}
use Rattle.sm_model.specs.Bounds.{fits, is_description, is_attempt, is_date}
use Rattle.sm_model.specs.declared.rows.Job.{Job}
use Rattle.sm_model.specs.declared.rows.Pair.{Pair}
use Rattle.sm_model.specs.declared.rows.Rows.{Rows}
use Rattle.sm_model.specs.declared.rows.SecretRow.{SecretRow}
use Rattle.sm_model.specs.declared.rows.VersionRow.{VersionRow}
use Rattle.sm_model.specs.declared.value.Tag.{Tag}
use Rattle.sm_policy_text.specs.Documents.{is_resource_policy}
use Rattle.sm_record.specs.declared.base.Base.{Base}
use Rattle.sm_table.specs.Kept.{row_names, row_serials}
use Rattle.sm_versions.specs.Kept.{labels_once, pairs_named, ids_once, has_none, has_current_value, is_finish}
use Rattle.sm_versions.specs.Labels.{own_count}
use Rattle.sm_versions.specs.Regions.{are_regions}
use Rattle.sm_versions.specs.Serials.{rises, version_serials}
use Rattle.sm_versions.specs.Settle.{is_live, is_create}
use Rattle.sm_versions.specs.Sound.{is_arn_of, tag_keys, each_tag, each_version, is_rotation, is_job}
use Rattle.sm_versions.specs.Texts.{once}
use Rattle.sm_versions.specs.Versions.{has_value}

-- ---- what is told from each other

abbrev pub version_ids : List VersionRow → List (List ℕ)
version_ids [] = []
version_ids (v ∷ vs) = v.id ∷ version_ids vs

abbrev pub pair_labels : List Pair → List (List ℕ)
pair_labels [] = []
pair_labels (p ∷ ps) = p.label ∷ pair_labels ps

-- the rest rises, from where it may
abbrev pub rises_from : Option ℕ → List ℕ → ℕ → Bool
rises_from None rest next = false
rises_from (Some low) rest next = rises low rest next

-- ---- ARNs

-- what stands behind the front of a text, where it begins with it
abbrev pub behind : List ℕ → List ℕ → Option (List ℕ)
behind text front = if starts_with nat_eq text front then Some (drop (length front) text) else None

-- the text is this one and six letters or digits
abbrev pub is_run_behind : List ℕ → List ℕ → Bool
is_run_behind text front =
    starts_with nat_eq text front && is_run is_ascii_alphanumeric 6 6 (drop (length front) text)

-- the text is the name, a hyphen, and six letters or digits
abbrev pub is_named_run : List ℕ → List ℕ → Bool
is_named_run text name = is_run_behind text (name ++ codes "-")

-- ---- one secret

-- not too many tags, each in its form, and no key twice
abbrev pub tags_fit : List Tag → Bool
tags_fit tags = nat_le (length tags) TAGS_LIMIT && (each_tag tags && once (tag_keys tags))

-- not too many labels, and none twice
abbrev pub labels_fit : List Pair → Bool
labels_fit pairs = nat_le (own_count pairs) LABELS_LIMIT && labels_once pairs

-- not too many versions, their serials rising, each fit, and no id twice
abbrev pub versions_fit : SecretRow → Bool
versions_fit row =
    nat_le (length row.versions) VERSIONS_LIMIT
    && (rises 0 (version_serials row.versions) row.next_version && (each_version row.versions && ids_once row.versions))

-- a live job, of which each number fits; its version has a value exactly past Create, and it was tested exactly at
-- Finish
abbrev pub job_fits : SecretRow → Job → Bool
job_fits row job =
    is_live row job && (is_attempt job.attempt && (beq (is_some job.tested) (is_finish job.stage)
    && (beq (has_value row.versions job.token) (not (is_create job.stage)) && is_job job)))

abbrev pub may_be_job : SecretRow → Option Job → Bool
may_be_job row None = true
may_be_job row (Some job) = job_fits row job

-- each date fits, save those of versions and of the job
abbrev pub dates_fit : SecretRow → Bool
dates_fit row = is_date row.created && (is_date row.changed && (fits is_date row.deletion && is_rotation row.rotation))

-- each text and each date fits, save those of tags, versions and the job
abbrev pub fields_fit : SecretRow → Bool
fields_fit row =
    is_arn_of row.arn row.name && (fits is_description row.description && (fits is_description row.kms
    && (fits is_resource_policy row.policy && dates_fit row)))

-- the labels are on versions, a current version has a value, and the job is one that the versions allow
abbrev pub is_held : SecretRow → Bool
is_held row =
    pairs_named row.versions row.labels
    && ((has_none row.versions || has_current_value row) && may_be_job row row.job)

-- ---- all secrets

-- a sound secret
abbrev pub row_fits : SecretRow → Bool
row_fits row =
    tags_fit row.tags && (labels_fit row.labels && (versions_fit row
    && (are_regions row.regions && (fields_fit row && is_held row))))

abbrev pub each_row : List SecretRow → Bool
each_row [] = true
each_row (r ∷ rs) = row_fits r && each_row rs

-- not too many secrets, their serials rising, no name twice, and each fit
abbrev pub rows_fit : Rows → Bool
rows_fit rows =
    nat_le (length rows.secrets) SECRETS_LIMIT && (rises 0 (row_serials rows.secrets) rows.next
    && (once (row_names rows.secrets) && each_row rows.secrets))

abbrev pub base_fits : Base → Bool
base_fits base = nat_le base.last.0 LAST_READING && rows_fit base.rows
