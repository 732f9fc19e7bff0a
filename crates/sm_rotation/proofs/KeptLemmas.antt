-- What a start and a step of a rotation keep of a secret.
use Rattle.std.proofs.Common.{◌≡◌, ℕ, ◌+◌, ◌*◌, Bool, true, false, not, ◌||◌, nat_lt, cond, List, [], ◌∷◌, ◌++◌, Option, Some, None, is_some, IfSome, refl, sym, ap, subst, ◌∙◌, arith}
use Rattle.std.proofs.lemmas.Bool.{or_right, false≢true}
use Rattle.std.proofs.lemmas.Bool.Decides.{nat_tests}
use Rattle.sm_base.specs.declared.moment.Moment.{Moment}
use Rattle.sm_base.specs.declared.limits.TheConstants.{ATTEMPTS_LIMIT}
use Rattle.sm_model.specs.declared.value.Value.{Value}
use Rattle.sm_model.specs.declared.entry.Answer.{Answer}
use Rattle.sm_model.specs.declared.rows.Pair.{Pair}
use Rattle.sm_model.specs.declared.rows.Job.{Job}
use Rattle.sm_model.specs.declared.rows.Stage.{Stage}
use Rattle.sm_model.specs.declared.rows.Stage.TheVariants.{Create, Set, Test, Finish}
use Rattle.sm_model.specs.declared.rows.VersionRow.{VersionRow}
use Rattle.sm_model.specs.declared.rows.SecretRow.{SecretRow}
use Rattle.sm_base.specs.Texts.{same_text}
use Rattle.sm_model.specs.Labels.{aws_current, aws_pending, holder}
use Rattle.sm_versions.specs.Labels.{place}
use Rattle.sm_versions.specs.Versions.{has_value, value_of, version_of, filled}
use Rattle.sm_model.specs.Versions.{When, has_version, is_full_when}
use Rattle.sm_versions.specs.Settle.{is_live, is_create}
use Rattle.sm_versions.specs.Kept.{VersionsKept, JobFits, JobKept, KeptUnsettled, CurrentKept, has_none, holder_has_value, is_finish}
use Rattle.sm_versions.proofs.TextLemmas.{same_text_itself}
use Rattle.sm_versions.proofs.PlaceLemmas.{Sound, sound_place, sound_without, holder_named, holder_place, holder_without_other}
use Rattle.sm_versions.proofs.ValueLemmas.{has_version_filled, ids_filled, serials_filled, has_value_filled, has_value_there, has_version_push, ids_push, value_of_push, serials_added, named_more, not_none}
use Rattle.sm_versions.proofs.KeptLaws.{settle_keeps}
use Rattle.sm_rotation.specs.declared.starting.Began.{Began}
use Rattle.sm_rotation.specs.declared.starting.Began.TheVariants.{Ok as Begun, Same, NoCurrent, Pending, Exists, TooMany, Memory}
use Rattle.sm_rotation.specs.Begin.{is_of_rotation, begin_if_room, begin_new, begin_held, begin_answer, pending_version, begin_row, is_begun}
use Rattle.sm_rotation.specs.Step.{is_yes, made_value, onward, retried, after_create, after_set, after_test, after_finish, marked, finished_labels, finished, step_at, step, applied_row}
use Rattle.sm_rotation.proofs.MarkLemmas.{has_version_marked, value_of_marked, serials_marked, ids_marked, none_filled}

pending_is_another : same_text aws_pending aws_current ≡ false
unfolding same_text aws_pending aws_current
pending_is_another = refl

current_is_itself : same_text aws_current aws_current ≡ true
current_is_itself = same_text_itself aws_current

-- ---- a start

-- what a start that begins has found
pub record Begins (row : SecretRow) (token : List ℕ) (when : When) : Type 0 where
  pub current : is_some (holder row.labels aws_current) ≡ true
  pub new : has_version row.versions token ≡ false
  pub room : is_full_when row when ≡ false

has_room : (full : Bool) (n : ℕ) → cond full (TooMany n) Begun ≡ Begun → full ≡ false
has_room true n h = absurd (cc)
has_room false n h = refl

is_new : (there : Bool) (token : List ℕ) (rest : Began) → cond there (Exists token) rest ≡ Begun
    → (there ≡ false) × (rest ≡ Begun)
is_new true token rest h = absurd (cc)
is_new false token rest h = (refl, h)

is_free : (same : Bool) (pending : List ℕ) (rest : Began) → cond same rest (Pending pending) ≡ Begun → rest ≡ Begun
is_free true pending rest h = h
is_free false pending rest h = absurd (cc)

held_begins : (row : SecretRow) (token : List ℕ) (when : When) (pending current : Option (List ℕ))
    → begin_held row token when pending current ≡ Begun
    → (is_some current ≡ true) × (begin_new row token when ≡ Begun)
held_begins row token when pending None h = absurd (cc)
held_begins row token when None (Some current) h = (refl, h)
held_begins row token when (Some pending) (Some current) h =
    (refl, is_free (same_text pending current) pending (begin_new row token when) h)

not_repeat : (made : Bool) (rest : Began) → cond made Same rest ≡ Begun → rest ≡ Begun
not_repeat true rest h = absurd (cc)
not_repeat false rest h = h

pub begins_from : (row : SecretRow) (token : List ℕ) (when : When) → begin_answer row token when ≡ Begun
    → Begins row token when
begins_from row token when h =
    let held = held_begins row token when (holder row.labels aws_pending) (holder row.labels aws_current)
    (not_repeat (is_of_rotation (version_of row.versions token)) _ h) in
    let new = is_new (has_version row.versions token) token (begin_if_room row when) held.1 in
    record { current = held.0; new = new.0; room = has_room (is_full_when row when) _ new.1 }

-- the holder of AWSCURRENT keeps its value, when an empty version is added
current_pushed : (vs : List VersionRow) (w : VersionRow) (held : Option (List ℕ)) → is_some held ≡ true
    → ((h : List ℕ) → held ≡ Some h → has_version vs h ≡ true) → (has_none vs || holder_has_value vs held) ≡ true
    → holder_has_value (vs ++ w ∷ []) held ≡ true
current_pushed vs w None there named before = absurd (cc)
current_pushed vs w (Some h) there named before =
    let here : has_version vs h ≡ true = named h refl in
    let valued : has_value vs h ≡ true =
    subst (λ (b : Bool). (b || has_value vs h) ≡ true) (not_none vs h here) before in
    ap is_some (value_of_push vs w h ∙ ap (λ b. cond b (value_of vs h) (cond (same_text w.id h) w.value None)) here)
    ∙ valued

versions_kept_begun : (row : SecretRow) (token : List ℕ) (when : When) → Begins row token when → VersionsKept row
    → VersionsKept (begin_row row token when.moment)
versions_kept_begun row token when begins kept =
    let w : VersionRow = pending_version row token when.moment in
    let ws : List VersionRow = row.versions ++ w ∷ [] in
    let there : has_version ws token ≡ true =
    has_version_push row.versions w token ∙ or_right (has_version row.versions token) _ (same_text_itself token) in
    let before : Sound ws row.labels =
    record {
      once = kept.once;
      named = named_more row.versions ws row.labels
          (λ x h. has_version_push row.versions w x ∙ ap (λ b. b || same_text token x) h) kept.named;
    } in
    let after : Sound ws (place row.labels aws_pending token) =
    sound_place ws row.labels aws_pending token there before in
    record {
      once = after.once;
      named = after.named;
      ids = ids_push row.versions w kept.ids begins.new;
      serials = serials_added row.versions w row.next_version refl kept.serials;
      current = or_right (has_none ws) _
          (rw (holder_place row.labels aws_pending token, pending_is_another)
          (current_pushed row.versions w (holder row.labels aws_current) begins.current
          (λ h e. holder_named row.versions row.labels aws_current h kept.named e) kept.current));
    }

-- a start keeps what stands before settling
pub begin_keeps : (row : SecretRow) (token : List ℕ) (when : When) → Begins row token when → KeptUnsettled row
    → KeptUnsettled (begin_row row token when.moment)
begin_keeps row token when begins kept = record {
  versions = versions_kept_begun row token when begins kept.versions;
  job = record { first = omega arith; last = omega arith; tested = refl; valued = refl };
}

began_is : (began : Began) → is_begun began ≡ true → began ≡ Begun
began_is Begun h = refl
began_is Same h = absurd (false≢true h)
began_is NoCurrent h = absurd (false≢true h)
began_is (Pending id) h = absurd (false≢true h)
began_is (Exists id) h = absurd (false≢true h)
began_is (TooMany n) h = absurd (false≢true h)
began_is Memory h = absurd (false≢true h)

-- the same of the row that a call leaves
pub after_begin : (P : SecretRow → Type 0) (began : Began) (row new : SecretRow) (token : List ℕ) (when : When)
    → (Begins row token when → P row → P (begin_row row token when.moment)) → began ≡ begin_answer row token when
    → new ≡ cond (is_begun began) (begin_row row token when.moment) row → P row → P new
after_begin P began row new token when keeps answer e kept = by (is_begun began) refl e
  where
    by : (b : Bool) → b ≡ is_begun began → new ≡ cond b (begin_row row token when.moment) row → P new
    by true begun f = subst P (sym f)
        (keeps (begins_from row token when (sym answer ∙ began_is began (sym begun))) kept)
    by false begun f = subst P (sym f) kept

-- ---- a step that leaves the versions

with_job : (row : SecretRow) (job : Option Job) → VersionsKept row → VersionsKept (record row { job = job })
with_job row job kept =
    record { once = kept.once; named = kept.named; ids = kept.ids; serials = kept.serials; current = kept.current }

-- what a job at a stage that leaves the versions has to fit
refit : (row : SecretRow) (is : Option Job) (job : Job) → JobFits row job → JobFits (record row { job = is }) job
refit row is job fits =
    record { first = fits.first; last = fits.last; tested = fits.tested; valued = fits.valued }

valued_fits : (create there valued : Bool) → valued ≡ not create → (create || not there || valued) ≡ true
valued_fits true there valued h = refl
valued_fits false true valued h = h
valued_fits false false valued h = refl

retried_fits : (row : SecretRow) (job : Job) (moment : Moment) → JobKept row job
    → IfSome (retried job moment) (JobFits row)
retried_fits row job moment kept = by (nat_lt job.attempt ATTEMPTS_LIMIT) refl
  where
    by : (b : Bool) → b ≡ nat_lt job.attempt ATTEMPTS_LIMIT
        → IfSome (cond b
        (Some (record job { attempt = job.attempt + 1; retry_at = record { 0 = moment.0 + 60 * job.attempt } })) None)
        (JobFits row)
    by true e = record {
      first = omega arith;
      last = grind (arith, nat_tests);
      tested = kept.tested;
      valued = valued_fits (is_create job.stage) (has_version row.versions job.token)
          (has_value row.versions job.token) kept.valued;
    }
    by false e = tt

-- the job goes on to a later stage
onward_fits : (row : SecretRow) (job : Job) (stage : Stage) (tested : Option ℕ) (moment : Moment)
    → has_value row.versions job.token ≡ true → is_some tested ≡ is_finish stage
    → JobFits row (record (onward job stage moment) { tested = tested })
onward_fits row job stage tested moment valued same = record {
  first = omega arith;
  last = omega arith;
  tested = same;
  valued = or_right (is_create stage || not (has_version row.versions job.token)) _ valued;
}

if_job : (row : SecretRow) (is job : Option Job) → IfSome job (JobFits row)
    → IfSome job (JobFits (record row { job = is }))
if_job row is None fits = tt
if_job row is (Some job) fits = refit row is job fits

-- a job that is changed and fits is all that is needed where the versions stay
job_changed : (row : SecretRow) (job : Option Job) → VersionsKept row → IfSome job (JobFits row)
    → KeptUnsettled (record row { job = job })
job_changed row job kept fits = record { versions = with_job row job kept; job = if_job row job job fits }

-- ---- createSecret

current_filled : (none : Bool) (vs : List VersionRow) (id : List ℕ) (value : Value) (held : Option (List ℕ))
    → (none || holder_has_value vs held) ≡ true → (none || holder_has_value (filled vs id value) held) ≡ true
current_filled true vs id value held h = refl
current_filled false vs id value None h = h
current_filled false vs id value (Some held) h = has_value_filled vs id value held h

versions_kept_filled : (row : SecretRow) (id : List ℕ) (value : Value) (job : Option Job) → VersionsKept row
    → VersionsKept (record row { versions = filled row.versions id value; job = job })
versions_kept_filled row id value job kept = record {
  once = kept.once;
  named = named_more row.versions (filled row.versions id value) row.labels
      (λ x h. has_version_filled row.versions id value x ∙ h) kept.named;
  ids = ids_filled row.versions id value ∙ kept.ids;
  serials = rw (serials_filled row.versions id value) kept.serials;
  current = rw (none_filled row.versions id value)
      (current_filled (has_none row.versions) row.versions id value (holder row.labels aws_current) kept.current);
}

live_there : (row : SecretRow) (job : Job) → is_live row job ≡ true → has_version row.versions job.token ≡ true
live_there row job live = grind (arith, live)

create_keeps : (row : SecretRow) (job : Job) (moment : Moment) (value : Option Value) → VersionsKept row
    → JobKept row job → is_some job.tested ≡ false → KeptUnsettled (after_create row job moment value)
create_keeps row job moment None versions kept untested =
    job_changed row (retried job moment) versions (retried_fits row job moment kept)
create_keeps row job moment (Some value) versions kept untested = record {
  versions = versions_kept_filled row job.token value (Some (onward job Set moment)) versions;
  job = record {
    first = omega arith;
    last = omega arith;
    tested = untested;
    valued = or_right (not (has_version (filled row.versions job.token value) job.token)) _
        (has_value_there row.versions job.token value (live_there row job kept.live));
  };
}

-- ---- setSecret and testSecret

set_fits : (row : SecretRow) (job : Job) (moment : Moment) (answer : Answer) → JobKept row job
    → has_value row.versions job.token ≡ true → is_some job.tested ≡ false
    → IfSome (after_set job moment answer) (JobFits row)
set_fits row job moment answer kept valued untested = by (is_yes answer)
  where
    by : (b : Bool) → IfSome (cond b (Some (onward job Test moment)) (retried job moment)) (JobFits row)
    by true = onward_fits row job Test job.tested moment valued untested
    by false = retried_fits row job moment kept

test_fits : (row : SecretRow) (job : Job) (moment : Moment) (answer : Answer) → JobKept row job
    → has_value row.versions job.token ≡ true → IfSome (after_test job moment answer) (JobFits row)
test_fits row job moment answer kept valued = by (is_yes answer)
  where
    by : (b : Bool)
        → IfSome (cond b (Some (record (onward job Finish moment) { tested = Some job.attempt })) (retried job moment))
        (JobFits row)
    by true = onward_fits row job Finish (Some job.attempt) moment valued refl
    by false = retried_fits row job moment kept

-- ---- finishSecret

finished_current : (ps : List Pair) (id : List ℕ) → holder (finished_labels ps id) aws_current ≡ Some id
finished_current ps id =
    holder_without_other (place ps aws_current id) aws_pending aws_current pending_is_another
    ∙ holder_place ps aws_current id ∙ ap (λ b. cond b (Some id) (holder ps aws_current)) current_is_itself

versions_kept_finished : (row : SecretRow) (job : Job) (moment : Moment) → has_version row.versions job.token ≡ true
    → has_value row.versions job.token ≡ true → VersionsKept row → VersionsKept (finished row job moment)
versions_kept_finished row job moment there valued kept =
    let ws : List VersionRow = marked row.versions job.token job.tested in
    let before : Sound ws row.labels =
    record {
      once = kept.once;
      named = named_more row.versions ws row.labels
          (λ x h. has_version_marked row.versions job.token job.tested x ∙ h) kept.named;
    } in
    let placed : Sound ws (place row.labels aws_current job.token) =
    sound_place ws row.labels aws_current job.token
    (has_version_marked row.versions job.token job.tested job.token ∙ there) before in
    let after : Sound ws (finished_labels row.labels job.token) =
    sound_without ws (place row.labels aws_current job.token) aws_pending placed in
    record {
      once = after.once;
      named = after.named;
      ids = ids_marked row.versions job.token job.tested ∙ kept.ids;
      serials = rw (serials_marked row.versions job.token job.tested) kept.serials;
      current = or_right (has_none ws) _
          (ap (holder_has_value ws) (finished_current row.labels job.token)
          ∙ ap is_some (value_of_marked row.versions job.token job.tested job.token) ∙ valued);
    }

finish_keeps : (row : SecretRow) (job : Job) (moment : Moment) (answer : Answer) → VersionsKept row → JobKept row job
    → has_value row.versions job.token ≡ true → KeptUnsettled (after_finish row job moment answer)
finish_keeps row job moment answer versions kept valued = by (is_yes answer)
  where
    by : (b : Bool) → KeptUnsettled (cond b (finished row job moment) (record row { job = retried job moment }))
    by true = record {
      versions = versions_kept_finished row job moment (live_there row job kept.live) valued versions;
      job = tt;
    }
    by false = job_changed row (retried job moment) versions (retried_fits row job moment kept)

-- ---- each step

step_at_keeps : (row : SecretRow) (job : Job) (moment : Moment) (answer : Answer) (stage : Stage) → job.stage ≡ stage
    → VersionsKept row → JobKept row job → KeptUnsettled (step_at row job moment answer stage)
step_at_keeps row job moment answer Create e versions kept =
    create_keeps row job moment (made_value answer) versions kept (kept.tested ∙ ap is_finish e)
step_at_keeps row job moment answer Set e versions kept =
    job_changed row (after_set job moment answer) versions
    (set_fits row job moment answer kept (kept.valued ∙ ap (λ s. not (is_create s)) e) (kept.tested ∙ ap is_finish e))
step_at_keeps row job moment answer Test e versions kept =
    job_changed row (after_test job moment answer) versions
    (test_fits row job moment answer kept (kept.valued ∙ ap (λ s. not (is_create s)) e))
step_at_keeps row job moment answer Finish e versions kept =
    finish_keeps row job moment answer versions kept (kept.valued ∙ ap (λ s. not (is_create s)) e)

pub step_keeps : (row : SecretRow) (job : Job) (answer : Answer) (moment : Moment) → VersionsKept row
    → JobKept row job → KeptUnsettled (step row job answer moment)
step_keeps row job answer moment versions kept = step_at_keeps row job moment answer job.stage refl versions kept

-- an answer keeps what holds between changes
pub applied_keeps : (row : SecretRow) (job : Option Job) (answer : Answer) (moment : Moment) → CurrentKept row
    → IfSome job (JobKept row) → CurrentKept (applied_row row job answer moment)
applied_keeps row None answer moment kept job = kept
applied_keeps row (Some job) answer moment kept j =
    settle_keeps (step row job answer moment) (step_keeps row job answer moment kept.versions j)

-- the same of the row that a call leaves
pub after_apply : (P : SecretRow → Type 0) (done : Bool) (row new : SecretRow) (answer : Answer) (moment : Moment)
    → P (applied_row row row.job answer moment) → new ≡ cond done (applied_row row row.job answer moment) row → P row
    → P new
after_apply P true row new answer moment after e kept = subst P (sym e) after
after_apply P false row new answer moment after e kept = subst P (sym e) kept
