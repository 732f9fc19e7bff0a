-- How long the bodies of a sound base are, and that they fit.
use Rattle.std.proofs.Common.{◌≡◌, ℕ, suc, ◌+◌, ◌*◌, ◌^◌, ◌<◌, ◌≤◌, leb, Bool, true, false, ◌&&◌, ◌||◌, cond, List, [], ◌∷◌, ◌++◌, length, Option, Some, None, is_none, IfSome, refl, sym, subst, arith, length-append}
use Rattle.std.specs.Prelude.{IsTrue, IsUtf8}
use Rattle.std.specs.List.{flat_map, list_all}
use Rattle.std.proofs.lemmas.Bool.{and_parts, and_from, leb-true, lt-ltb, false≢true}
use Rattle.sm_base.specs.Spelling.{is_label, is_name, is_token}
use Rattle.sm_base.specs.Texts.{same_text}
use Rattle.sm_base.specs.declared.limits.TheConstants.{ATTEMPTS_LIMIT, DAYS_LIMIT, LABELS_LIMIT, LAST_DATE, LAST_ROTATION_DATE, SCHEDULE_LIMIT}
use Rattle.sm_base.specs.declared.moment.Moment.{Moment}
use Rattle.sm_model.specs.Bounds.{fits, is_attempt, is_description, is_small, is_date, is_rotation_date, are_days}
use Rattle.sm_model.specs.Labels.{aws_current, aws_previous, aws_pending, holder}
use Rattle.sm_model.specs.declared.rows.Job.{Job}
use Rattle.sm_model.specs.declared.rows.Pair.{Pair}
use Rattle.sm_model.specs.declared.rows.Rotation.{Rotation}
use Rattle.sm_model.specs.declared.rows.SecretRow.{SecretRow}
use Rattle.sm_model.specs.declared.rows.VersionRow.{VersionRow}
use Rattle.sm_model.specs.declared.value.Value.{Value}
use Rattle.sm_policy_text.specs.Documents.{is_resource_policy}
use Rattle.sm_cron.specs.Spelling.{is_schedule, is_schedule_expression}
use Rattle.sm_versions.specs.Kept.{labels_once, JobKept}
use Rattle.sm_versions.specs.Labels.{own_count}
use Rattle.sm_versions.specs.Sound.{is_version, is_rotation, is_job, RowSound}
use Rattle.sm_versions.specs.Texts.{is_aws}
use Rattle.sm_versions.proofs.TextLemmas.{same_text_decides}
use Rattle.sm_record.specs.Codec.{optional}
use Rattle.sm_record.specs.Fields.{arn, long, count, text, token, listed, truth, stage, value, tag, schedule}
use Rattle.sm_record.specs.Requests.{regions}
use Rattle.sm_record.specs.Rows.{name, label, date, octet, days, pair, job, rotation, named, described, counted, ruled, row_head, version, named_of, described_of, counted_of, ruled_of, head_of_row}
use Rattle.sm_record.specs.declared.edition.Edition.TheVariants.{Second}
use Rattle.sm_encoded_size.specs.Texts.{ValueText}
use Rattle.sm_encoded_size.proofs.FieldSizes.{octets_size, octets_fits, truth_size, truth_fits, optional_size, optional_fits, name_size, description_size, label_size, policy_size, tag_list_size, tag_list_fits, arn_field_size, arn_field_fits, token_field_size, token_field_fits, stage_size, stage_fits, value_size, value_fits, regions_size, regions_fit}
use Rattle.sm_encoded_size.specs.Typed.{VersionTyped, PairTyped, PairsTyped, RowTyped}

-- ---- numbers and dates

pub long_size : (n : ℕ) → length (long.spell n) ≡ 8
unfolding long
long_size n = refl

pub long_fits : (n : ℕ) → n < 2 ^ 64 → long.fits n ≡ true
unfolding long
long_fits n small = lt-ltb n (2 ^ 64) small

date_size : (d : Moment) → length (date.spell d) ≡ 8
unfolding date
date_size d = long_size d.0

date_fits : (d : Moment) → d.0 < 2 ^ 64 → date.fits d ≡ true
unfolding date
date_fits d small = long_fits d.0 small

early : (d : Moment) → is_date d ≡ true → d.0 < 2 ^ 64
early d is = omega (arith, leb-true d.0 LAST_DATE is)

date_may_size : (d : Option Moment) → length ((optional date).spell d) ≤ 9
unfolding optional
date_may_size None = omega arith
date_may_size (Some d) = omega (arith, date_size d)

date_may_fit : (d : Option Moment) → fits is_date d ≡ true → (optional date).fits d ≡ true
unfolding optional
date_may_fit None is = refl
date_may_fit (Some d) is = date_fits d (early d is)

next_may_fit : (d : Option Moment) → fits is_rotation_date d ≡ true → (optional date).fits d ≡ true
unfolding optional
next_may_fit None is = refl
next_may_fit (Some d) is = date_fits d (omega (arith, leb-true d.0 LAST_ROTATION_DATE is))

octet_fits : (n : ℕ) → n ≤ ATTEMPTS_LIMIT → octet.fits n ≡ true
unfolding octet
octet_fits n few = lt-ltb n 256 (omega (arith, few))

attempt_few : (n : ℕ) → is_attempt n ≡ true → n ≤ ATTEMPTS_LIMIT
attempt_few n is = leb-true n ATTEMPTS_LIMIT (and_parts (leb 1 n) (leb n ATTEMPTS_LIMIT) is).1

octet_may_size : (n : Option ℕ) → length ((optional octet).spell n) ≤ 2
unfolding optional octet
octet_may_size None = omega arith
octet_may_size (Some n) = omega arith

octet_may_fit : (n : Option ℕ) → fits is_attempt n ≡ true → (optional octet).fits n ≡ true
unfolding optional
octet_may_fit None is = refl
octet_may_fit (Some n) is = octet_fits n (attempt_few n is)

days_may_size : (n : Option ℕ) → length ((optional days).spell n) ≤ 9
unfolding optional days
days_may_size None = omega arith
days_may_size (Some n) = omega (arith, long_size n)

days_may_fit : (n : Option ℕ) → fits are_days n ≡ true → (optional days).fits n ≡ true
unfolding optional days
days_may_fit None is = refl
days_may_fit (Some n) is =
    let few : n ≤ DAYS_LIMIT = leb-true n DAYS_LIMIT (and_parts (leb 1 n) (leb n DAYS_LIMIT) is).1 in
    and_from _ _ (lt-ltb n (2 ^ 32) (omega (arith, few))) (long_fits n (omega (arith, few)))

-- ---- texts that need not be there

described_few : (t : Option (List ℕ)) → IfSome t IsUtf8 → fits is_description t ≡ true
    → IfSome t (λ x. length x ≤ 8192)
described_few None utf8 is = tt
described_few (Some t) utf8 is = description_size t utf8 is

policy_few : (t : Option (List ℕ)) → IfSome t IsUtf8 → fits is_resource_policy t ≡ true
    → IfSome t (λ x. length x ≤ 81920)
policy_few None utf8 is = tt
policy_few (Some t) utf8 is = policy_size t utf8 is

-- ---- a version

value_may_size : (v : Option Value) → fits is_small v ≡ true → length ((optional value).spell v) ≤ 65542
unfolding optional
value_may_size None is = omega arith
value_may_size (Some v) is = omega (arith, value_size v is)

value_may_fit : (v : Option Value) → IfSome v ValueText → fits is_small v ≡ true → (optional value).fits v ≡ true
unfolding optional
value_may_fit None utf8 is = refl
value_may_fit (Some v) utf8 is = value_fits v utf8 is

pub version_fits : (v : VersionRow) → VersionTyped v → is_version v ≡ true → v.serial < 2 ^ 64
    → version.fits v ≡ true
unfolding version
version_fits v typed is small =
    let first = and_parts (fits is_small v.value && fits is_attempt v.rotated) (is_date v.made) is in
    let parts = and_parts (fits is_small v.value) (fits is_attempt v.rotated) first.0 in
    and_from _ _ refl (and_from _ _ (token_field_fits v.id typed.id) (and_from _ _ (long_fits v.serial small)
    (and_from _ _ (date_fits v.made (early v.made first.1))
    (and_from _ _ (value_may_fit v.value typed.value parts.0)
    (and_from _ _ (octet_may_fit v.rotated parts.1) (truth_fits v.by_rotation))))))

pub version_size : (v : VersionRow) → VersionTyped v → is_version v ≡ true → length (version.spell v) ≤ 65700
unfolding version
version_size v typed is =
    let first = and_parts (fits is_small v.value && fits is_attempt v.rotated) (is_date v.made) is in
    let parts = and_parts (fits is_small v.value) (fits is_attempt v.rotated) first.0 in
    let made : List ℕ = truth.spell v.by_rotation in
    let marked : List ℕ = (optional octet).spell v.rotated ++ made in
    let valued : List ℕ = (optional value).spell v.value ++ marked in
    let dated : List ℕ = date.spell v.made ++ valued in
    let numbered : List ℕ = long.spell v.serial ++ dated in
    omega (
      arith,
      length-append (token.spell v.id) numbered,
      length-append (long.spell v.serial) dated,
      length-append (date.spell v.made) valued,
      length-append ((optional value).spell v.value) marked,
      length-append ((optional octet).spell v.rotated) made,
      token_field_size v.id typed.id,
      long_size v.serial,
      date_size v.made,
      value_may_size v.value parts.0,
      octet_may_size v.rotated,
      truth_size v.by_rotation,
    )

-- ---- labels

label_field_size : (t : List ℕ) → is_label t ≡ true → length (label.spell t) ≤ 1028
unfolding label
label_field_size t is = omega (arith, octets_size t, label_size t is)

label_field_fits : (t : List ℕ) → is_label t ≡ true → label.fits t ≡ true
unfolding label
label_field_fits t is = and_from _ _ is (octets_fits t (omega (arith, label_size t is)))

pair_size : (p : Pair) → PairTyped p → length (pair.spell p) ≤ 1096
unfolding pair
pair_size p typed =
    omega (
      arith,
      length-append (label.spell p.label) (token.spell p.id),
      label_field_size p.label typed.label,
      token_field_size p.id typed.id,
    )

pair_fits : (p : Pair) → PairTyped p → pair.fits p ≡ true
unfolding pair
pair_fits p typed = and_from _ _ (label_field_fits p.label typed.label) (token_field_fits p.id typed.id)

each_pair_size : (pairs : List Pair) → PairsTyped pairs → length (flat_map pair.spell pairs) ≤ 1096 * length pairs
each_pair_size [] typed = omega arith
each_pair_size (p ∷ ps) typed =
    omega (
      arith,
      length-append (pair.spell p) (flat_map pair.spell ps),
      pair_size p typed.0,
      each_pair_size ps typed.1,
    )

each_pair_fits : (pairs : List Pair) → PairsTyped pairs → list_all pair.fits pairs ≡ true
each_pair_fits [] typed = refl
each_pair_fits (p ∷ ps) typed = and_from _ _ (pair_fits p typed.0) (each_pair_fits ps typed.1)

aws_is : (t : List ℕ) → is_aws t ≡ (same_text t aws_current || same_text t aws_previous || same_text t aws_pending)
unfolding is_aws
aws_is t = refl

-- how many pairs have this label
abbrev counts : List Pair → List ℕ → ℕ
counts [] t = 0
counts (p ∷ ps) t = cond (same_text p.label t) (counts ps t + 1) (counts ps t)

none_counted : (pairs : List Pair) (t : List ℕ) → is_none (holder pairs t) ≡ true → counts pairs t ≡ 0
none_counted [] t h = refl
none_counted (p ∷ ps) t h = by (same_text p.label t) h (none_counted ps t)
  where
    by : (b : Bool) → is_none (cond b (Some p.id) (holder ps t)) ≡ true
        → (is_none (holder ps t) ≡ true → counts ps t ≡ 0) → cond b (counts ps t + 1) (counts ps t) ≡ 0
    by true e rest = absurd (false≢true e)
    by false e rest = rest e

-- each label is counted once at most
once_counted : (pairs : List Pair) (t : List ℕ) → labels_once pairs ≡ true → counts pairs t ≤ 1
once_counted [] t h = omega arith
once_counted (p ∷ ps) t h =
    let parts = and_parts (is_none (holder ps p.label)) (labels_once ps) h in
    by (same_text p.label t) refl (once_counted ps t parts.1) (none_counted ps p.label parts.0)
  where
    by : (b : Bool) → b ≡ same_text p.label t → counts ps t ≤ 1 → counts ps p.label ≡ 0
        → cond b (counts ps t + 1) (counts ps t) ≤ 1
    by true e rest none =
        let same : p.label ≡ t = (same_text_decides p.label t).0 (sym e) in
        omega (arith, subst (λ (l : List ℕ). counts ps l ≡ 0) same none)
    by false e rest none = rest

-- all pairs are those of the three labels of AWS, and the others
all_counted : (pairs : List Pair)
    → length pairs
    ≤ own_count pairs + counts pairs aws_current + counts pairs aws_previous + counts pairs aws_pending
unfolding same_text
all_counted [] = omega arith
all_counted (p ∷ ps) =
    by (same_text p.label aws_current) (same_text p.label aws_previous) (same_text p.label aws_pending) (is_aws p.label)
    (aws_is p.label) (all_counted ps)
  where
    by : (c r q a : Bool) → a ≡ (c || r || q)
        → length ps ≤ own_count ps + counts ps aws_current + counts ps aws_previous + counts ps aws_pending
        → suc (length ps) ≤ cond a (own_count ps) (own_count ps + 1)
        + cond c (counts ps aws_current + 1) (counts ps aws_current)
        + cond r (counts ps aws_previous + 1) (counts ps aws_previous)
        + cond q (counts ps aws_pending + 1) (counts ps aws_pending)
    by true true true a e rest = rw e (omega (arith, rest))
    by true true false a e rest = rw e (omega (arith, rest))
    by true false true a e rest = rw e (omega (arith, rest))
    by true false false a e rest = rw e (omega (arith, rest))
    by false true true a e rest = rw e (omega (arith, rest))
    by false true false a e rest = rw e (omega (arith, rest))
    by false false true a e rest = rw e (omega (arith, rest))
    by false false false a e rest = rw e (omega (arith, rest))

few_pairs : (pairs : List Pair) → labels_once pairs ≡ true → own_count pairs ≤ LABELS_LIMIT → length pairs ≤ 23
few_pairs pairs labels few =
    omega (
      arith,
      all_counted pairs,
      once_counted pairs aws_current labels,
      once_counted pairs aws_previous labels,
      once_counted pairs aws_pending labels,
      few,
    )

count_size : (n : ℕ) → length (count.spell n) ≡ 4
unfolding count
count_size n = refl

pairs_size : (pairs : List Pair) → PairsTyped pairs → length pairs ≤ 23
    → length ((listed pair).spell pairs) ≤ 25212
unfolding listed
pairs_size pairs typed few =
    omega (
      arith,
      length-append (count.spell (length pairs)) (flat_map pair.spell pairs),
      count_size (length pairs),
      each_pair_size pairs typed,
      few,
    )

pairs_fit : (pairs : List Pair) → PairsTyped pairs → length pairs ≤ 23 → (listed pair).fits pairs ≡ true
unfolding listed count
pairs_fit pairs typed few =
    and_from _ _ (lt-ltb (length pairs) (2 ^ 32) (omega (arith, few))) (each_pair_fits pairs typed)

-- ---- a job

job_fits : (j : Job) → is_token j.token ≡ true → j.attempt ≤ ATTEMPTS_LIMIT → is_job j ≡ true → job.fits j ≡ true
unfolding job
job_fits j id few is =
    let parts = and_parts (fits is_attempt j.tested) (is_date j.retry_at) is in
    and_from _ _ (token_field_fits j.token id)
    (and_from _ _ (stage_fits j.stage) (and_from _ _ (octet_fits j.attempt few)
    (and_from _ _ (date_fits j.retry_at (early j.retry_at parts.1)) (octet_may_fit j.tested parts.0))))

job_size : (j : Job) → is_token j.token ≡ true → length (job.spell j) ≤ 80
unfolding job octet
job_size j id =
    let tried : List ℕ = (optional octet).spell j.tested in
    let dated : List ℕ = date.spell j.retry_at ++ tried in
    omega (
      arith,
      length-append (token.spell j.token) (stage.spell j.stage ++ (j.attempt ∷ dated)),
      length-append (stage.spell j.stage) (j.attempt ∷ dated),
      length-append (date.spell j.retry_at) tried,
      token_field_size j.token id,
      stage_size j.stage,
      date_size j.retry_at,
      octet_may_size j.tested,
    )

job_may_fit : (row : SecretRow) (j : Option Job) → IfSome j (λ job. IsTrue (is_token job.token))
    → IfSome j (JobKept row) → fits is_job j ≡ true → (optional job).fits j ≡ true
unfolding optional
job_may_fit row None id kept is = refl
job_may_fit row (Some j) id kept is = job_fits j id kept.last is

job_may_size : (j : Option Job) → IfSome j (λ job. IsTrue (is_token job.token))
    → length ((optional job).spell j) ≤ 81
unfolding optional
job_may_size None id = omega arith
job_may_size (Some j) id = omega (arith, job_size j id)

-- ---- how a secret is rotated

schedule_few : (t : Option (List ℕ)) → fits is_schedule_expression t ≡ true → IfSome t (λ x. length x ≤ 256)
schedule_few None is = tt
schedule_few (Some t) is =
    let few : length t ≤ SCHEDULE_LIMIT =
    leb-true (length t) SCHEDULE_LIMIT (and_parts (leb (length t) SCHEDULE_LIMIT) (is_schedule t) is).0 in
    omega (arith, few)

-- what the test of a rotation says, part by part
record RotationParts (r : Rotation) : Type 0 where
  lambda : fits is_description r.lambda ≡ true
  days : fits are_days r.days ≡ true
  schedule : fits is_schedule_expression r.schedule ≡ true
  next : fits is_rotation_date r.next ≡ true
  last : fits is_date r.last ≡ true

rotation_parts : (r : Rotation) → is_rotation r ≡ true → RotationParts r
rotation_parts r is =
    let last = and_parts _ (fits is_date r.last) is in
    let next = and_parts _ (fits is_rotation_date r.next) last.0 in
    let schedule = and_parts _ (fits is_schedule_expression r.schedule) next.0 in
    let first = and_parts (fits is_description r.lambda) (fits are_days r.days) schedule.0 in
    record { lambda = first.0; days = first.1; schedule = schedule.1; next = next.1; last = last.1 }

rotation_fits : (r : Rotation) → IfSome r.lambda IsUtf8 → IfSome r.schedule IsUtf8 → is_rotation r ≡ true
    → (rotation Second).fits r ≡ true
unfolding rotation
rotation_fits r lambda planned is =
    let parts = rotation_parts r is in
    and_from _ _ (truth_fits r.enabled)
    (and_from _ _
    (optional_fits r.lambda 8192 (omega arith) lambda (described_few r.lambda lambda parts.lambda))
    (and_from _ _ (days_may_fit r.days parts.days)
    (and_from _ _ (optional_fits r.schedule 256 (omega arith) planned (schedule_few r.schedule parts.schedule))
    (and_from _ _ (next_may_fit r.next parts.next) (date_may_fit r.last parts.last)))))

rotation_size : (r : Rotation) → IfSome r.lambda IsUtf8 → is_rotation r ≡ true
    → length ((rotation Second).spell r) ≤ 8500
unfolding rotation
rotation_size r lambda is =
    let parts = rotation_parts r is in
    let ended : List ℕ = (optional date).spell r.last in
    let dated : List ℕ = (optional date).spell r.next ++ ended in
    let planned : List ℕ = (schedule Second).spell r.schedule ++ dated in
    let ruled : List ℕ = (optional days).spell r.days ++ planned in
    let called : List ℕ = (optional text).spell r.lambda ++ ruled in
    omega (
      arith,
      length-append (truth.spell r.enabled) called,
      length-append ((optional text).spell r.lambda) ruled,
      length-append ((optional days).spell r.days) planned,
      length-append ((schedule Second).spell r.schedule) dated,
      length-append ((optional date).spell r.next) ended,
      truth_size r.enabled,
      optional_size r.lambda 8192 (described_few r.lambda lambda parts.lambda),
      days_may_size r.days,
      optional_size r.schedule 256 (schedule_few r.schedule parts.schedule),
      date_may_size r.next,
      date_may_size r.last,
    )

-- ---- the parts of a secret

name_field_size : (t : List ℕ) → is_name t ≡ true → length (name.spell t) ≤ 516
unfolding name
name_field_size t is = omega (arith, octets_size t, name_size t is)

name_field_fits : (t : List ℕ) → is_name t ≡ true → name.fits t ≡ true
unfolding name
name_field_fits t is = and_from _ _ is (octets_fits t (omega (arith, name_size t is)))

module _ (row : SecretRow) (typed : RowTyped row) (sound : RowSound row) (small : row.serial < 2 ^ 64) where
  named_fits : named.fits (named_of row) ≡ true
  unfolding named
  named_fits =
      and_from _ _ (long_fits row.serial small) (and_from _ _ (arn_field_fits row.arn typed.arn)
      (and_from _ _ (name_field_fits row.name typed.name)
      (and_from _ _ (date_fits row.created (early row.created sound.fits.created))
      (date_fits row.changed (early row.changed sound.fits.changed)))))

  named_size : length (named.spell (named_of row)) ≤ 1144
  unfolding named
  named_size =
      let changed : List ℕ = date.spell row.changed in
      let dated : List ℕ = date.spell row.created ++ changed in
      let called : List ℕ = name.spell row.name ++ dated in
      omega (
        arith,
        length-append (long.spell row.serial) (arn.spell row.arn ++ called),
        length-append (arn.spell row.arn) called,
        length-append (name.spell row.name) dated,
        length-append (date.spell row.created) changed,
        long_size row.serial,
        arn_field_size row.arn typed.arn,
        name_field_size row.name typed.name,
        date_size row.created,
        date_size row.changed,
      )

  described_fits : described.fits (described_of row) ≡ true
  unfolding described
  described_fits =
      and_from _ _
      (optional_fits row.description 8192 (omega arith) typed.texts.description
      (described_few row.description typed.texts.description sound.fits.description))
      (and_from _ _
      (optional_fits row.kms 8192 (omega arith) typed.texts.kms
      (described_few row.kms typed.texts.kms sound.fits.kms))
      (tag_list_fits row.tags typed.texts.tags sound.fits.tags sound.fits.tag_count))

  described_size : length (described.spell (described_of row)) ≤ 93598
  unfolding described
  described_size =
      let tagged : List ℕ = (listed tag).spell row.tags in
      omega (
        arith,
        length-append ((optional text).spell row.description) ((optional text).spell row.kms ++ tagged),
        length-append ((optional text).spell row.kms) tagged,
        optional_size row.description 8192
            (described_few row.description typed.texts.description sound.fits.description),
        optional_size row.kms 8192 (described_few row.kms typed.texts.kms sound.fits.kms),
        tag_list_size row.tags typed.texts.tags sound.fits.tags sound.fits.tag_count,
      )

  few : length row.labels ≤ 23
  few = few_pairs row.labels sound.kept.versions.once sound.fits.labels

  counted_fits : counted.fits (counted_of row) ≡ true
  unfolding counted
  counted_fits =
      and_from _ _ (long_fits (length row.versions) (omega (arith, sound.version_count)))
      (and_from _ _ (long_fits row.next_version typed.next)
      (and_from _ _ (pairs_fit row.labels typed.labels few) (date_may_fit row.deletion sound.fits.deletion)))

  counted_size : length (counted.spell (counted_of row)) ≤ 25237
  unfolding counted
  counted_size =
      let ended : List ℕ = (optional date).spell row.deletion in
      let labelled : List ℕ = (listed pair).spell row.labels ++ ended in
      omega (
        arith,
        length-append (long.spell (length row.versions)) (long.spell row.next_version ++ labelled),
        length-append (long.spell row.next_version) labelled,
        length-append ((listed pair).spell row.labels) ended,
        long_size (length row.versions),
        long_size row.next_version,
        pairs_size row.labels typed.labels few,
        date_may_size row.deletion,
      )

  regions_few : length ((regions Second).spell row.regions) ≤ 724
  regions_few = regions_size row.regions sound.fits.regions

  ruled_fits : (ruled Second).fits (ruled_of row) ≡ true
  unfolding ruled
  ruled_fits =
      and_from _ _
      (optional_fits row.policy 81920 (omega arith) typed.texts.policy
      (policy_few row.policy typed.texts.policy sound.fits.policy))
      (and_from _ _ (regions_fit row.regions sound.fits.regions)
      (job_may_fit row row.job typed.job sound.kept.job sound.fits.job))

  ruled_size : length ((ruled Second).spell (ruled_of row)) ≤ 82730
  unfolding ruled
  ruled_size =
      let tried : List ℕ = (optional job).spell row.job in
      omega (
        arith,
        length-append ((optional text).spell row.policy) ((regions Second).spell row.regions ++ tried),
        length-append ((regions Second).spell row.regions) tried,
        optional_size row.policy 81920 (policy_few row.policy typed.texts.policy sound.fits.policy),
        regions_few,
        job_may_size row.job typed.job,
      )

  pub head_fits : (row_head Second).fits (head_of_row row) ≡ true
  unfolding row_head
  head_fits =
      and_from _ _ refl (and_from _ _ named_fits (and_from _ _ described_fits (and_from _ _ counted_fits
      (and_from _ _ (rotation_fits row.rotation typed.texts.lambda typed.texts.schedule sound.fits.rotation)
      ruled_fits))))

  pub head_size : length ((row_head Second).spell (head_of_row row)) ≤ 212000
  unfolding row_head
  head_size =
      let rules : List ℕ = (ruled Second).spell (ruled_of row) in
      let rotated : List ℕ = (rotation Second).spell row.rotation ++ rules in
      let told : List ℕ = counted.spell (counted_of row) ++ rotated in
      omega (
        arith,
        length-append (named.spell (named_of row)) (described.spell (described_of row) ++ told),
        length-append (described.spell (described_of row)) told,
        length-append (counted.spell (counted_of row)) rotated,
        length-append ((rotation Second).spell row.rotation) rules,
        named_size,
        described_size,
        counted_size,
        rotation_size row.rotation typed.texts.lambda sound.fits.rotation,
        ruled_size,
      )
