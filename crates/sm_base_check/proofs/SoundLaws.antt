-- What the tests of a sound base say: all of it, and nothing more.
use Rattle.std.proofs.Common.{◌≡◌, ◌≤◌, ◌↔◌, ℕ, zero, suc, ◌+◌, ◌<◌, leb, Bool, true, false, not, ◌&&◌, ◌||◌, List, [], ◌∷◌, ◌++◌, length, take, get_or, Option, Some, None, is_some, IfSome, IsTrue, refl, sym, ap, ◌∙◌, arith}
use Rattle.std.specs.Bool.{beq}
use Rattle.std.proofs.Props.{props}
use Rattle.std.proofs.lemmas.List.{take_more}
use Rattle.std.proofs.lemmas.Bool.{and_parts, and_from, and_left, leb-true, le-leb, false≢true}
use Rattle.sm_base.specs.declared.limits.TheConstants.{
  SECRETS_LIMIT,
  VERSIONS_LIMIT,
  LABELS_LIMIT,
  TAGS_LIMIT,
  ATTEMPTS_LIMIT,
}
use Rattle.sm_base.specs.declared.moment.TheConstants.{LAST_READING}
use Rattle.sm_model.specs.Bounds.{fits, is_description, is_attempt, is_date}
use Rattle.sm_model.specs.declared.rows.Job.{Job}
use Rattle.sm_model.specs.declared.rows.SecretRow.{SecretRow}
use Rattle.sm_policy_text.specs.Documents.{is_resource_policy}
use Rattle.sm_record.specs.declared.base.Base.{Base}
use Rattle.sm_table.specs.Kept.{row_names, row_serials}
use Rattle.sm_table.specs.Sound.{EachSound}
use Rattle.sm_table.proofs.PropLemmas.{Sound-prop}
use Rattle.sm_versions.specs.Kept.{labels_once, pairs_named, ids_once, has_none, has_current_value, is_finish, VersionsKept, JobKept}
use Rattle.sm_versions.specs.Labels.{own_count}
use Rattle.sm_versions.specs.Regions.{are_regions}
use Rattle.sm_versions.specs.Serials.{rises, version_serials}
use Rattle.sm_versions.specs.Settle.{is_live, is_create}
use Rattle.sm_versions.specs.Sound.{is_arn_of, tag_keys, each_tag, each_version, is_rotation, is_job, RowFits, RowSound}
use Rattle.sm_versions.specs.Texts.{once}
use Rattle.sm_versions.specs.Versions.{has_value}
use Rattle.sm_base_check.specs.Bases.{IsSound}
use Rattle.sm_base_check.specs.Tests.{
  tags_fit,
  labels_fit,
  versions_fit,
  job_fits,
  may_be_job,
  dates_fit,
  fields_fit,
  is_held,
  row_fits,
  each_row,
  rows_fit,
  base_fits,
}

-- ---- tests of two answers

same : (a b : Bool) → beq a b ≡ true → a ≡ b
same true true e = refl
same true false e = absurd (false≢true e)
same false true e = absurd (false≢true e)
same false false e = refl

is_same : (a b : Bool) → a ≡ b → beq a b ≡ true
is_same true true e = refl
is_same true false e = sym e
is_same false true e = e
is_same false false e = refl

-- ---- a job

job_kept : (row : SecretRow) (job : Job) → job_fits row job ≡ true → JobKept row job × (is_job job ≡ true)
job_kept row job h =
    let live = and_parts (is_live row job) _ h in
    let attempt = and_parts (is_attempt job.attempt) _ live.1 in
    let within = and_parts (leb 1 job.attempt) (leb job.attempt ATTEMPTS_LIMIT) attempt.0 in
    let tested = and_parts (beq (is_some job.tested) (is_finish job.stage)) _ attempt.1 in
    let valued = and_parts (beq (has_value row.versions job.token) (not (is_create job.stage)))
    (is_job job) tested.1 in (
      record {
        live = live.0;
        first = leb-true 1 job.attempt within.0;
        last = leb-true job.attempt ATTEMPTS_LIMIT within.1;
        tested = same (is_some job.tested) (is_finish job.stage) tested.0;
        valued = same (has_value row.versions job.token) (not (is_create job.stage)) valued.0;
      },
      valued.1,
    )

job_is_fit : (row : SecretRow) (job : Job) → JobKept row job → is_job job ≡ true → job_fits row job ≡ true
job_is_fit row job kept fit =
    and_from _ _ kept.live
    (and_from _ _ (and_from _ _ (le-leb 1 job.attempt kept.first) (le-leb job.attempt ATTEMPTS_LIMIT kept.last))
    (and_from _ _ (is_same (is_some job.tested) (is_finish job.stage) kept.tested)
    (and_from _ _ (is_same (has_value row.versions job.token) (not (is_create job.stage)) kept.valued) fit)))

may_job_kept : (row : SecretRow) (job : Option Job) → may_be_job row job ≡ true
    → IfSome job (JobKept row) × (fits is_job job ≡ true)
may_job_kept row None h = (tt, refl)
may_job_kept row (Some job) h = job_kept row job h

may_job_fit : (row : SecretRow) (job : Option Job) → IfSome job (JobKept row) → fits is_job job ≡ true
    → may_be_job row job ≡ true
may_job_fit row None kept fit = refl
may_job_fit row (Some job) kept fit = job_is_fit row job kept fit

-- ---- one secret

-- what the tests of a secret say, one by one
record Parts (row : SecretRow) : Type 0 where
  tags : tags_fit row.tags ≡ true
  labels : labels_fit row.labels ≡ true
  versions : versions_fit row ≡ true
  regions : are_regions row.regions ≡ true
  fields : fields_fit row ≡ true
  held : is_held row ≡ true

parts_of : (row : SecretRow) → row_fits row ≡ true → Parts row
parts_of row h =
    let tags = and_parts (tags_fit row.tags) _ h in
    let labels = and_parts (labels_fit row.labels) _ tags.1 in
    let versions = and_parts (versions_fit row) _ labels.1 in
    let regions = and_parts (are_regions row.regions) _ versions.1 in
    let fields = and_parts (fields_fit row) (is_held row) regions.1 in
    record {
      tags = tags.0;
      labels = labels.0;
      versions = versions.0;
      regions = regions.0;
      fields = fields.0;
      held = fields.1;
    }

from_parts : (row : SecretRow) → Parts row → row_fits row ≡ true
from_parts row parts =
    and_from _ _ parts.tags (and_from _ _ parts.labels (and_from _ _ parts.versions
    (and_from _ _ parts.regions (and_from _ _ parts.fields parts.held))))

versions_kept : (row : SecretRow) → Parts row → VersionsKept row
versions_kept row parts =
    let labels = and_parts (leb (own_count row.labels) LABELS_LIMIT) (labels_once row.labels) parts.labels in
    let versions = and_parts (leb (length row.versions) VERSIONS_LIMIT) _ parts.versions in
    let serials = and_parts (rises 0 (version_serials row.versions) row.next_version) _ versions.1 in
    let each = and_parts (each_version row.versions) (ids_once row.versions) serials.1 in
    let named = and_parts (pairs_named row.versions row.labels) _ parts.held in
    let current = and_parts (has_none row.versions || has_current_value row) (may_be_job row row.job) named.1 in
    record { once = labels.1; named = named.0; ids = each.1; serials = serials.0; current = current.0 }

job_part : (row : SecretRow) → Parts row → IfSome row.job (JobKept row) × (fits is_job row.job ≡ true)
job_part row parts =
    let named = and_parts (pairs_named row.versions row.labels) _ parts.held in
    let current = and_parts (has_none row.versions || has_current_value row) (may_be_job row row.job) named.1 in
    may_job_kept row row.job current.1

version_count_of : (row : SecretRow) → Parts row → length row.versions ≤ VERSIONS_LIMIT
version_count_of row parts =
    leb-true (length row.versions) VERSIONS_LIMIT
    (and_parts (leb (length row.versions) VERSIONS_LIMIT) _ parts.versions).0

row_fits_whole : (row : SecretRow) → Parts row → RowFits row
row_fits_whole row parts =
    let tags = and_parts (leb (length row.tags) TAGS_LIMIT) _ parts.tags in
    let keys = and_parts (each_tag row.tags) (once (tag_keys row.tags)) tags.1 in
    let labels = and_parts (leb (own_count row.labels) LABELS_LIMIT) (labels_once row.labels) parts.labels in
    let versions = and_parts (leb (length row.versions) VERSIONS_LIMIT) _ parts.versions in
    let serials = and_parts (rises 0 (version_serials row.versions) row.next_version) _ versions.1 in
    let each = and_parts (each_version row.versions) (ids_once row.versions) serials.1 in
    let arn = and_parts (is_arn_of row.arn row.name) _ parts.fields in
    let description = and_parts (fits is_description row.description) _ arn.1 in
    let kms = and_parts (fits is_description row.kms) _ description.1 in
    let policy = and_parts (fits is_resource_policy row.policy) (dates_fit row) kms.1 in
    let created = and_parts (is_date row.created) _ policy.1 in
    let changed = and_parts (is_date row.changed) _ created.1 in
    let deletion = and_parts (fits is_date row.deletion) (is_rotation row.rotation) changed.1 in
    record {
      arn = arn.0;
      description = description.0;
      kms = kms.0;
      tag_count = leb-true (length row.tags) TAGS_LIMIT tags.0;
      tags = keys.0;
      tag_once = keys.1;
      policy = policy.0;
      versions = each.0;
      labels = leb-true (own_count row.labels) LABELS_LIMIT labels.0;
      created = created.0;
      changed = changed.0;
      deletion = deletion.0;
      rotation = deletion.1;
      regions = parts.regions;
      job = (job_part row parts).1;
    }

row_sound : (row : SecretRow) → row_fits row ≡ true → RowSound row
row_sound row h =
    let parts = parts_of row h in
    record {
      kept = record { versions = versions_kept row parts; job = (job_part row parts).0 };
      fits = row_fits_whole row parts;
      version_count = version_count_of row parts;
    }

row_is_fit : (row : SecretRow) → RowSound row → row_fits row ≡ true
row_is_fit row sound =
    let versions = sound.kept.versions in
    let all = sound.fits in
    from_parts row (record {
      tags = and_from _ _ (le-leb (length row.tags) TAGS_LIMIT all.tag_count) (and_from _ _ all.tags all.tag_once);
      labels = and_from _ _ (le-leb (own_count row.labels) LABELS_LIMIT all.labels) versions.once;
      versions = and_from _ _ (le-leb (length row.versions) VERSIONS_LIMIT sound.version_count)
          (and_from _ _ versions.serials (and_from _ _ all.versions versions.ids));
      regions = all.regions;
      fields = and_from _ _ all.arn (and_from _ _ all.description (and_from _ _ all.kms
          (and_from _ _ all.policy (and_from _ _ all.created (and_from _ _ all.changed
          (and_from _ _ all.deletion all.rotation))))));
      held = and_from _ _ versions.named
          (and_from _ _ versions.current (may_job_fit row row.job sound.kept.job all.job));
    })

-- ---- all secrets

each_sound : (rows : List SecretRow) → each_row rows ≡ true → EachSound rows
each_sound [] h = tt
each_sound (r ∷ rs) h =
    let parts = and_parts (row_fits r) (each_row rs) h in (row_sound r parts.0, each_sound rs parts.1)

each_is_fit : (rows : List SecretRow) → EachSound rows → each_row rows ≡ true
each_is_fit [] sound = refl
each_is_fit (r ∷ rs) sound = and_from _ _ (row_is_fit r sound.0) (each_is_fit rs sound.1)

each_push : (rows : List SecretRow) (row : SecretRow)
    → each_row (rows ++ row ∷ []) ≡ (each_row rows && row_fits row)
each_push [] row = by (row_fits row)
  where
    by : (b : Bool) → (b && true) ≡ (true && b)
    by true = refl
    by false = refl
each_push (r ∷ rs) row = by (row_fits r) (each_push rs row)
  where
    by : (b : Bool) → each_row (rs ++ row ∷ []) ≡ (each_row rs && row_fits row)
        → (b && each_row (rs ++ row ∷ [])) ≡ ((b && each_row rs) && row_fits row)
    by true rest = rest
    by false rest = refl

-- one row more, as at a step of a loop
pub each_more : (rows : List SecretRow) (i : ℕ) (row : SecretRow) → i < length rows → row ≡ get_or rows i row
    → row_fits row ≡ true → each_row (take i rows) ≡ true → each_row (take (i + 1) rows) ≡ true
each_more rows i row lt is fits each =
    ap each_row (take_more rows i row lt ∙ ap (λ (r : SecretRow). take i rows ++ r ∷ []) (sym is))
    ∙ each_push (take i rows) row ∙ rw (each, fits) refl

-- one that doesn't fit
pub each_not : (rows : List SecretRow) (i : ℕ) (row : SecretRow) → i < length rows → row ≡ get_or rows i row
    → row_fits row ≡ false → each_row rows ≡ false
each_not [] i row lt is e = absurd (omega (arith, lt))
each_not (r ∷ rs) zero row lt is e = rw (sym is, e) refl
each_not (r ∷ rs) (suc i) row lt is e = rw (each_not rs i row (omega (arith, lt)) is e) (by (row_fits r))
  where
    by : (b : Bool) → (b && false) ≡ false
    by true = refl
    by false = refl

base_sound : (base : Base) → base_fits base ≡ true → IsSound base
base_sound base h =
    let last = and_parts (leb base.last.0 LAST_READING) (rows_fit base.rows) h in
    let count = and_parts (leb (length base.rows.secrets) SECRETS_LIMIT) _ last.1 in
    let serials = and_parts (rises 0 (row_serials base.rows.secrets) base.rows.next) _ count.1 in
    let names = and_parts (once (row_names base.rows.secrets)) (each_row base.rows.secrets) serials.1 in
    record {
      rows = record {
        serials = serials.0;
        names = names.0;
        count = leb-true (length base.rows.secrets) SECRETS_LIMIT count.0;
        each = each_sound base.rows.secrets names.1;
      };
      last = leb-true base.last.0 LAST_READING last.0;
    }

base_is_fit : (base : Base) → IsSound base → base_fits base ≡ true
base_is_fit base sound =
    and_from _ _ (le-leb base.last.0 LAST_READING sound.last)
    (and_from _ _ (le-leb (length base.rows.secrets) SECRETS_LIMIT sound.rows.count)
    (and_from _ _ sound.rows.serials
    (and_from _ _ sound.rows.names (each_is_fit base.rows.secrets sound.rows.each))))

-- the answer of the tests is true exactly where the base is sound
base_is_sound : (base : Base) (answer : Bool) → answer ≡ base_fits base → IsTrue answer ↔ IsSound base
base_is_sound base answer e = (λ h. base_sound base (sym e ∙ h), λ sound. e ∙ base_is_fit base sound)

-- a moment past the last reading, or the answer of the rows behind one that is not
pub too_late : (base : Base) → leb base.last.0 LAST_READING ≡ false → IsTrue false ↔ IsSound base
too_late base late = base_is_sound base false (sym (and_left _ _ late))

pub in_time : (base : Base) (answer : Bool) → leb base.last.0 LAST_READING ≡ true → answer ≡ rows_fit base.rows
    → IsTrue answer ↔ IsSound base
in_time base answer timely e = base_is_sound base answer (e ∙ sym (ap (λ b. b && rows_fit base.rows) timely))

-- ---- one proof at most, so that a type can keep it

pub IsSound-prop : (base : Base) → IsProp (IsSound base)
IsSound-prop base = Prim.hlevel (Sound-prop, props)
