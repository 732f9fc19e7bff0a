-- What a start and a step of a rotation keep of a sound secret.
use Rattle.std.proofs.Common.{◌≡◌, ℕ, ◌+◌, ◌*◌, ◌≤◌, Bool, true, false, ◌&&◌, nat_lt, cond, List, [], ◌∷◌, ◌++◌, length, Option, Some, None, IfSome, refl, sym, arith}
use Rattle.std.proofs.lemmas.Grind.{common_steps}
use Rattle.std.proofs.lemmas.Bool.{and_parts, and_from}
use Rattle.std.proofs.lemmas.Bool.Decides.{nat_tests}
use Rattle.sm_base.specs.declared.moment.Moment.{Moment}
use Rattle.sm_base.specs.declared.moment.TheConstants.{LAST_READING}
use Rattle.sm_base.specs.declared.limits.TheConstants.{VERSIONS_LIMIT, LABELS_LIMIT, ATTEMPTS_LIMIT}
use Rattle.sm_model.specs.declared.value.Value.{Value}
use Rattle.sm_model.specs.declared.entry.Answer.{Answer}
use Rattle.sm_model.specs.declared.entry.Answer.TheVariants.{Value as Made, Yes, No, Failed}
use Rattle.sm_model.specs.declared.rows.Pair.{Pair}
use Rattle.sm_model.specs.declared.rows.Job.{Job}
use Rattle.sm_model.specs.declared.rows.Stage.{Stage}
use Rattle.sm_model.specs.declared.rows.Stage.TheVariants.{Create, Set, Test, Finish}
use Rattle.sm_model.specs.declared.rows.Rotation.{Rotation}
use Rattle.sm_model.specs.declared.rows.VersionRow.{VersionRow}
use Rattle.sm_model.specs.declared.rows.SecretRow.{SecretRow}
use Rattle.sm_model.specs.Versions.{When, counted}
use Rattle.sm_model.specs.Bounds.{fits, is_small, is_attempt, are_days, is_date, is_rotation_date, is_description}
use Rattle.sm_cron.specs.Spelling.{is_schedule_expression}
use Rattle.sm_dates.specs.Days.{rotation_after}
use Rattle.sm_dates.proofs.RotationLemmas.{rotation_after_fits}
use Rattle.sm_versions.specs.Texts.{is_aws}
use Rattle.sm_base.specs.Texts.{same_text}
use Rattle.sm_model.specs.Labels.{aws_current, aws_previous, aws_pending, holder}
use Rattle.sm_versions.specs.Labels.{own_count, without, moved, with_previous, with_current, place}
use Rattle.sm_versions.specs.Versions.{filled}
use Rattle.sm_versions.specs.Kept.{JobKept}
use Rattle.sm_versions.specs.Sound.{is_version, each_version, is_rotation, is_job, RowFits, UnsettledSound, RowSound}
use Rattle.sm_versions.proofs.SoundLaws.{settle_sound, length_filled}
use Rattle.sm_versions.proofs.CountLaws.{added_counted, labelled_place}
use Rattle.sm_rotation.specs.declared.starting.Began.TheVariants.{Ok as Begun}
use Rattle.sm_rotation.specs.Begin.{begin_answer, pending_version, first_job, begin_row}
use Rattle.sm_rotation.specs.Step.{is_yes, made_value, onward, retried, after_create, after_set, after_test, after_finish, marked, finished_labels, finished, step_at, step, applied_row}
use Rattle.sm_rotation.proofs.MarkLemmas.{length_marked}
use Rattle.sm_rotation.proofs.KeptLemmas.{Begins, begins_from, begin_keeps, step_keeps}

-- ---- the parts that a rotation changes

pub record Parts : Type 0 where
  pub versions : List VersionRow
  pub next_version : ℕ
  pub labels : List Pair
  pub rotation : Rotation
  pub job : Option Job

pub record PartsFit (p : Parts) : Type 0 where
  pub versions : each_version p.versions ≡ true
  pub labels : own_count p.labels ≤ LABELS_LIMIT
  pub rotation : is_rotation p.rotation ≡ true
  pub job : fits is_job p.job ≡ true

abbrev with_parts : SecretRow → Parts → SecretRow
with_parts row p =
    record row {
      versions = p.versions;
      next_version = p.next_version;
      labels = p.labels;
      rotation = p.rotation;
      job = p.job;
    }

parts_fit : (row : SecretRow) (p : Parts) → RowFits row → PartsFit p → RowFits (with_parts row p)
parts_fit row p f fit = assumption (fit, f)

-- ---- labels

pending_is_aws : is_aws aws_pending ≡ true
unfolding is_aws same_text aws_current aws_previous aws_pending
pending_is_aws = refl

previous_is_aws : is_aws aws_previous ≡ true
unfolding is_aws same_text aws_current aws_previous aws_pending
previous_is_aws = refl

current_is_aws : is_aws aws_current ≡ true
unfolding is_aws same_text aws_current aws_previous aws_pending
current_is_aws = refl

fewer_without : (ps : List Pair) (label : List ℕ) → own_count (without ps label) ≤ own_count ps
fewer_without [] label = omega arith
fewer_without (p ∷ ps) label = grind (arith, common_steps, fewer_without ps label)

own_push : (ps : List Pair) (q : Pair) → is_aws q.label ≡ true → own_count (ps ++ q ∷ []) ≡ own_count ps
own_push [] q aws = rw aws refl
own_push (p ∷ ps) q aws = grind (arith, common_steps, own_push ps q)

fewer_moved : (ps : List Pair) (label id : List ℕ) → is_aws label ≡ true
    → own_count (moved ps label id) ≤ own_count ps
fewer_moved ps label id aws =
    omega (arith, own_push (without ps label) (record { label = label; id = id }) aws, fewer_without ps label)

fewer_previous : (ps : List Pair) (held : Option (List ℕ)) (id : List ℕ)
    → own_count (with_previous ps held id) ≤ own_count ps
fewer_previous ps None id = omega arith
fewer_previous ps (Some h) id = by (same_text h id)
  where
    by : (b : Bool) → own_count (cond b ps (moved ps aws_previous h)) ≤ own_count ps
    by true = omega arith
    by false = fewer_moved ps aws_previous h previous_is_aws

-- placing one of AWS's own labels makes no more of the others
fewer_placed : (ps : List Pair) (label id : List ℕ) → is_aws label ≡ true
    → own_count (place ps label id) ≤ own_count ps
fewer_placed ps label id aws = by (same_text label aws_current)
  where
    by : (b : Bool) → own_count (cond b (with_current ps id) (moved ps label id)) ≤ own_count ps
    by true = omega (
      arith,
      fewer_previous (moved ps aws_current id) (holder ps aws_current) id,
      fewer_moved ps aws_current id current_is_aws,
    )
    by false = fewer_moved ps label id aws

fewer_finished : (ps : List Pair) (id : List ℕ) → own_count (finished_labels ps id) ≤ own_count ps
fewer_finished ps id = omega (
  arith,
  fewer_without (place ps aws_current id) aws_pending,
  fewer_placed ps aws_current id current_is_aws,
)

-- ---- versions

each_push : (vs : List VersionRow) (w : VersionRow) → each_version vs ≡ true → is_version w ≡ true
    → each_version (vs ++ w ∷ []) ≡ true
each_push [] w each new = and_from _ _ new refl
each_push (v ∷ vs) w each new =
    let parts = and_parts (is_version v) (each_version vs) each in and_from _ _ parts.0 (each_push vs w parts.1 new)

each_filled : (vs : List VersionRow) (id : List ℕ) (value : Value) → each_version vs ≡ true → is_small value ≡ true
    → each_version (filled vs id value) ≡ true
each_filled [] id value each small = refl
each_filled (v ∷ vs) id value each small =
    let parts = and_parts (is_version v) (each_version vs) each in
    let head = and_parts (fits is_small v.value && fits is_attempt v.rotated) (is_date v.made) parts.0 in
    by (same_text v.id id)
    (and_from _ _ (and_from _ _ small (and_parts (fits is_small v.value) (fits is_attempt v.rotated) head.0).1) head.1)
    parts.0 parts.1 (each_filled vs id value parts.1 small)
  where
    by : (b : Bool) → is_version (record v { value = Some value }) ≡ true → is_version v ≡ true → each_version vs ≡ true
        → each_version (filled vs id value) ≡ true
        → each_version (cond b (record v { value = Some value } ∷ vs) (v ∷ filled vs id value)) ≡ true
    by true here head tail rest = and_from _ _ here tail
    by false here head tail rest = and_from _ _ head rest

each_marked : (vs : List VersionRow) (id : List ℕ) (tested : Option ℕ) → each_version vs ≡ true
    → fits is_attempt tested ≡ true → each_version (marked vs id tested) ≡ true
each_marked [] id tested each fit = refl
each_marked (v ∷ vs) id tested each fit =
    let parts = and_parts (is_version v) (each_version vs) each in
    let head = and_parts (fits is_small v.value && fits is_attempt v.rotated) (is_date v.made) parts.0 in
    by (same_text v.id id)
    (and_from _ _ (and_from _ _ (and_parts (fits is_small v.value) (fits is_attempt v.rotated) head.0).0 fit) head.1)
    parts.0 parts.1 (each_marked vs id tested parts.1 fit)
  where
    by : (b : Bool) → is_version (record v { rotated = tested }) ≡ true → is_version v ≡ true → each_version vs ≡ true
        → each_version (marked vs id tested) ≡ true
        → each_version (cond b (record v { rotated = tested } ∷ vs) (v ∷ marked vs id tested)) ≡ true
    by true here head tail rest = and_from _ _ here tail
    by false here head tail rest = and_from _ _ head rest

-- ---- dates

reading_is_date : (moment : Moment) → moment.0 ≤ LAST_READING → is_date moment ≡ true
reading_is_date moment h = grind (arith, nat_tests)

-- a moment and at most a day
soon_is_date : (n more : ℕ) → n ≤ LAST_READING → more ≤ 86_400 → is_date (record { 0 = n + more }) ≡ true
soon_is_date n more h k = grind (arith, nat_tests)

rotation_finished : (rotation : Rotation) (moment : Moment) → moment.0 ≤ LAST_READING → is_rotation rotation ≡ true
    → is_rotation (record rotation { next = rotation_after rotation moment; last = Some moment }) ≡ true
rotation_finished rotation moment h fit =
    let last = and_parts _ (fits is_date rotation.last) fit in
    let next = and_parts _ (fits is_rotation_date rotation.next) last.0 in
    let schedule = and_parts _ (fits is_schedule_expression rotation.schedule) next.0 in
    let parts = and_parts (fits is_description rotation.lambda) (fits are_days rotation.days) schedule.0 in
    and_from _ _
    (and_from _ _ next.0 (rotation_after_fits rotation moment h parts.1))
    (reading_is_date moment h)

-- ---- a start

begin_fits : (row : SecretRow) (token : List ℕ) (moment : Moment) → moment.0 ≤ LAST_READING
    → RowFits row → RowFits (begin_row row token moment)
begin_fits row token moment h f =
    let w : VersionRow = pending_version row token moment in
    parts_fit row
    (record {
      versions = row.versions ++ w ∷ [];
      next_version = row.next_version + 1;
      labels = place row.labels aws_pending token;
      rotation = row.rotation;
      job = Some (first_job token moment);
    }) f
    (record {
      versions = each_push row.versions w f.versions (reading_is_date moment h);
      labels = omega (arith, fewer_placed row.labels aws_pending token pending_is_aws, f.labels);
      rotation = f.rotation;
      job = reading_is_date moment h;
    })

-- a start keeps a sound secret sound before settling
pub begin_sound : (row : SecretRow) (token : List ℕ) (when : When) → when.moment.0 ≤ LAST_READING
    → Begins row token when → UnsettledSound row → UnsettledSound (begin_row row token when.moment)
begin_sound row token when h begins sound = record {
  kept = begin_keeps row token when begins sound.kept;
  fits = begin_fits row token when.moment h sound.fits;
}

-- of the row after a start no more versions count than there may be
pub begin_counted : (row : SecretRow) (token : List ℕ) (when : When) → begin_answer row token when ≡ Begun
    → length (counted (begin_row row token when.moment) when) ≤ VERSIONS_LIMIT
begin_counted row token when begun =
    let begins : Begins row token when = begins_from row token when begun in
    added_counted row (begin_row row token when.moment) (pending_version row token when.moment) when begins.room
    begins.new refl (λ x other. labelled_place row.labels aws_pending token x other)

-- ---- a step

job_fits : (row : SecretRow) (job : Option Job) → RowFits row → fits is_job job ≡ true
    → RowFits (record row { job = job })
job_fits row job f fit =
    parts_fit row
    (record {
      versions = row.versions;
      next_version = row.next_version;
      labels = row.labels;
      rotation = row.rotation;
      job = job;
    }) f
    (record { versions = f.versions; labels = f.labels; rotation = f.rotation; job = fit })

tested_fits : (job : Job) → is_job job ≡ true → fits is_attempt job.tested ≡ true
tested_fits job h = (and_parts (fits is_attempt job.tested) (is_date job.retry_at) h).0

onward_is_job : (job : Job) (stage : Stage) (moment : Moment) → moment.0 ≤ LAST_READING → is_job job ≡ true
    → is_job (onward job stage moment) ≡ true
onward_is_job job stage moment h fit = and_from _ _ (tested_fits job fit) (reading_is_date moment h)

retried_is_job : (job : Job) (moment : Moment) → moment.0 ≤ LAST_READING → job.attempt ≤ ATTEMPTS_LIMIT
    → is_job job ≡ true → fits is_job (retried job moment) ≡ true
retried_is_job job moment h few fit = by (nat_lt job.attempt ATTEMPTS_LIMIT)
  where
    by : (b : Bool) → fits is_job (cond b
        (Some (record job { attempt = job.attempt + 1; retry_at = record { 0 = moment.0 + 60 * job.attempt } })) None)
        ≡ true
    by true = and_from _ _ (tested_fits job fit) (soon_is_date moment.0 (60 * job.attempt) h (omega arith))
    by false = refl

small_made : (answer : Answer) → fits is_small (made_value answer) ≡ true
small_made (Made value) = by (is_small value) refl
  where
    by : (b : Bool) → b ≡ is_small value → fits is_small (cond b (Some value) None) ≡ true
    by true e = sym e
    by false e = refl
small_made Yes = refl
small_made No = refl
small_made Failed = refl

create_fits : (row : SecretRow) (job : Job) (moment : Moment) (value : Option Value) → moment.0 ≤ LAST_READING
    → job.attempt ≤ ATTEMPTS_LIMIT → is_job job ≡ true → fits is_small value ≡ true → RowFits row
    → RowFits (after_create row job moment value)
create_fits row job moment None h few fit small f =
    job_fits row (retried job moment) f (retried_is_job job moment h few fit)
create_fits row job moment (Some value) h few fit small f =
    parts_fit row
    (record {
      versions = filled row.versions job.token value;
      next_version = row.next_version;
      labels = row.labels;
      rotation = row.rotation;
      job = Some (onward job Set moment);
    }) f
    (record {
      versions = each_filled row.versions job.token value f.versions small;
      labels = f.labels;
      rotation = f.rotation;
      job = onward_is_job job Set moment h fit;
    })

set_is_job : (job : Job) (moment : Moment) (answer : Answer) → moment.0 ≤ LAST_READING → job.attempt ≤ ATTEMPTS_LIMIT
    → is_job job ≡ true → fits is_job (after_set job moment answer) ≡ true
set_is_job job moment answer h few fit = by (is_yes answer)
  where
    by : (b : Bool) → fits is_job (cond b (Some (onward job Test moment)) (retried job moment)) ≡ true
    by true = onward_is_job job Test moment h fit
    by false = retried_is_job job moment h few fit

test_is_job : (job : Job) (moment : Moment) (answer : Answer) → moment.0 ≤ LAST_READING → is_attempt job.attempt ≡ true
    → job.attempt ≤ ATTEMPTS_LIMIT → is_job job ≡ true → fits is_job (after_test job moment answer) ≡ true
test_is_job job moment answer h attempt few fit = by (is_yes answer)
  where
    by : (b : Bool) → fits is_job
        (cond b (Some (record (onward job Finish moment) { tested = Some job.attempt })) (retried job moment)) ≡ true
    by true = and_from _ _ attempt (reading_is_date moment h)
    by false = retried_is_job job moment h few fit

finished_fits : (row : SecretRow) (job : Job) (moment : Moment) → moment.0 ≤ LAST_READING → is_job job ≡ true
    → RowFits row → RowFits (finished row job moment)
finished_fits row job moment h fit f =
    parts_fit row
    (record {
      versions = marked row.versions job.token job.tested;
      next_version = row.next_version;
      labels = finished_labels row.labels job.token;
      rotation = record row.rotation { next = rotation_after row.rotation moment; last = Some moment };
      job = None;
    }) f
    (record {
      versions = each_marked row.versions job.token job.tested f.versions (tested_fits job fit);
      labels = omega (arith, fewer_finished row.labels job.token, f.labels);
      rotation = rotation_finished row.rotation moment h f.rotation;
      job = refl;
    })

finish_fits : (row : SecretRow) (job : Job) (moment : Moment) (answer : Answer) → moment.0 ≤ LAST_READING
    → job.attempt ≤ ATTEMPTS_LIMIT → is_job job ≡ true → RowFits row → RowFits (after_finish row job moment answer)
finish_fits row job moment answer h few fit f = by (is_yes answer)
  where
    by : (b : Bool) → RowFits (cond b (finished row job moment) (record row { job = retried job moment }))
    by true = finished_fits row job moment h fit f
    by false = job_fits row (retried job moment) f (retried_is_job job moment h few fit)

attempt_from : (row : SecretRow) (job : Job) → JobKept row job → is_attempt job.attempt ≡ true
attempt_from row job kept = grind (arith, nat_tests, kept.first, kept.last)

step_at_fits : (row : SecretRow) (job : Job) (moment : Moment) (answer : Answer) (stage : Stage)
    → moment.0 ≤ LAST_READING → JobKept row job → is_job job ≡ true → RowFits row
    → RowFits (step_at row job moment answer stage)
step_at_fits row job moment answer Create h kept fit f =
    create_fits row job moment (made_value answer) h kept.last fit (small_made answer) f
step_at_fits row job moment answer Set h kept fit f =
    job_fits row (after_set job moment answer) f (set_is_job job moment answer h kept.last fit)
step_at_fits row job moment answer Test h kept fit f =
    job_fits row (after_test job moment answer) f
    (test_is_job job moment answer h (attempt_from row job kept) kept.last fit)
step_at_fits row job moment answer Finish h kept fit f = finish_fits row job moment answer h kept.last fit f

create_count : (row : SecretRow) (job : Job) (moment : Moment) (value : Option Value)
    → length (after_create row job moment value).versions ≡ length row.versions
create_count row job moment None = refl
create_count row job moment (Some value) = length_filled row.versions job.token value

finish_count : (row : SecretRow) (job : Job) (moment : Moment) (answer : Answer)
    → length (after_finish row job moment answer).versions ≡ length row.versions
finish_count row job moment answer = by (is_yes answer)
  where
    by : (b : Bool) → length (cond b (finished row job moment) (record row { job = retried job moment })).versions
        ≡ length row.versions
    by true = length_marked row.versions job.token job.tested
    by false = refl

-- a step leaves as many versions as there were
step_count : (row : SecretRow) (job : Job) (moment : Moment) (answer : Answer) (stage : Stage)
    → length (step_at row job moment answer stage).versions ≡ length row.versions
step_count row job moment answer Create = create_count row job moment (made_value answer)
step_count row job moment answer Set = refl
step_count row job moment answer Test = refl
step_count row job moment answer Finish = finish_count row job moment answer

applied_sound_on : (row : SecretRow) (job : Option Job) (answer : Answer) (moment : Moment) → moment.0 ≤ LAST_READING
    → RowSound row → IfSome job (JobKept row) → fits is_job job ≡ true
    → RowSound (applied_row row job answer moment)
applied_sound_on row None answer moment h sound kept fit = sound
applied_sound_on row (Some job) answer moment h sound kept fit =
    settle_sound (step row job answer moment)
    (record {
      kept = step_keeps row job answer moment sound.kept.versions kept;
      fits = step_at_fits row job moment answer job.stage h kept fit sound.fits;
    })
    (omega (arith, step_count row job moment answer job.stage, sound.version_count))

-- an answer keeps a sound secret sound
pub applied_sound : (row : SecretRow) (answer : Answer) (moment : Moment) → moment.0 ≤ LAST_READING → RowSound row
    → RowSound (applied_row row row.job answer moment)
applied_sound row answer moment h sound =
    applied_sound_on row row.job answer moment h sound sound.kept.job sound.fits.job
