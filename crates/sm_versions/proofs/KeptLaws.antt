-- What put, move_label and settle keep of a secret.
use Rattle.std.proofs.Common.{◌≡◌, ℕ, Bool, true, false, not, ◌&&◌, ◌||◌, cond, List, [], ◌∷◌, ◌++◌, Option, Some, None, is_some, IsTrue, IfSome, refl, sym, ap, subst, ◌∙◌, arith}
use Rattle.std.proofs.lemmas.Bool.{and_parts, or_right, false≢true}
use Rattle.std.proofs.lemmas.Option.{IfSome_then}
use Rattle.sm_model.specs.declared.value.Value.{Value}
use Rattle.sm_base.specs.declared.moment.Moment.{Moment}
use Rattle.sm_model.specs.declared.rows.Pair.{Pair}
use Rattle.sm_model.specs.declared.rows.Job.{Job}
use Rattle.sm_model.specs.declared.rows.Stage.{Stage}
use Rattle.sm_model.specs.declared.rows.Stage.TheVariants.{Create, Set, Test, Finish}
use Rattle.sm_model.specs.declared.rows.VersionRow.{VersionRow}
use Rattle.sm_model.specs.declared.rows.SecretRow.{SecretRow}
use Rattle.sm_versions.specs.declared.moving.Moved.{Moved}
use Rattle.sm_versions.specs.declared.moving.Moved.TheVariants.{Ok as Placed, NotThere, HeldBy, KeepsCurrent, Empty, TooManyLabels, Memory}
use Rattle.sm_versions.specs.Texts.{is_among}
use Rattle.sm_base.specs.Texts.{same_text}
use Rattle.sm_model.specs.Labels.{aws_current, holder}
use Rattle.sm_versions.specs.Labels.{place, place_all, without}
use Rattle.sm_versions.specs.Versions.{has_value, version_of, filled}
use Rattle.sm_model.specs.Versions.{has_version}
use Rattle.sm_versions.specs.Settle.{is_live, is_create, advanced_job, settled_job, settle}
use Rattle.sm_versions.specs.Put.{new_version, added_row, filled_row, put_row, put_row_on}
use Rattle.sm_versions.specs.Move.{missing, move_placed, move_to, move_held, unless_missing, move_answer, move_row, is_moved}
use Rattle.sm_versions.specs.Kept.{VersionsKept, JobFits, JobKept, KeptUnsettled, CurrentKept, has_none, holder_has_value, is_finish, will_have_current}
use Rattle.sm_versions.proofs.TextLemmas.{same_text_itself}
use Rattle.sm_versions.proofs.PlaceLemmas.{Sound, sound_place_all, sound_place, sound_without, holder_named, holder_place_all, holder_place, holder_without_other}
use Rattle.sm_versions.proofs.ValueLemmas.{has_version_filled, ids_filled, serials_filled, has_value_filled, has_value_there, has_version_push, ids_push, value_of_push, has_value_named, serials_added, named_more, version_of_none, version_of_some, not_none}

-- ---- values that stay

-- each version that had a value has one
abbrev KeepsValues : List VersionRow → List VersionRow → Type 0
KeepsValues vs ws = (x : List ℕ) → has_value vs x ≡ true → has_value ws x ≡ true

added_keeps_values : (vs : List VersionRow) (w : VersionRow) → KeepsValues vs (vs ++ w ∷ [])
added_keeps_values vs w x h = rw (value_of_push vs w x) (grind (arith, has_value_named vs x))

-- ---- AWSCURRENT

-- the holder of AWSCURRENT has a value, where it is the version that was put or it was there before
current_kept : (vs ws : List VersionRow) (ps : List Pair) (labels : List (List ℕ)) (id : List ℕ) → KeepsValues vs ws
    → has_value ws id ≡ true → Sound vs ps
    → (has_none vs || holder_has_value vs (holder ps aws_current)) ≡ true
    → (is_some (holder ps aws_current) || is_among labels aws_current) ≡ true
    → holder_has_value ws (holder (place_all ps labels id) aws_current) ≡ true
current_kept vs ws ps labels id keeps there sound before will =
    rw (holder_place_all ps labels id)
    (by (is_among labels aws_current) (holder ps aws_current) will before
    (λ h e. holder_named vs ps aws_current h sound.named e))
  where
    by : (b : Bool) (held : Option (List ℕ)) → (is_some held || b) ≡ true
        → (has_none vs || holder_has_value vs held) ≡ true → ((h : List ℕ) → held ≡ Some h → has_version vs h ≡ true)
        → holder_has_value ws (cond b (Some id) held) ≡ true
    by true held will before named = there
    by false None will before named = absurd (cc)
    by false (Some h) will before named = keeps h (grind (arith, not_none vs h (named h refl)))

-- ---- a put

added_there : (row : SecretRow) (token : List ℕ) (value : Value) (moment : Moment)
    → has_version (row.versions ++ new_version row token value moment ∷ []) token ≡ true
added_there row token value moment =
    rw (has_version_push row.versions (new_version row token value moment) token)
    (grind (arith, same_text_itself token))

added_sound : (row : SecretRow) (token : List ℕ) (value : Value) (moment : Moment) → VersionsKept row
    → Sound (row.versions ++ new_version row token value moment ∷ []) row.labels
added_sound row token value moment kept = record {
  once = kept.once;
  named = named_more row.versions (row.versions ++ w ∷ []) row.labels
      (λ x h. rw (has_version_push row.versions w x) (grind arith)) kept.named;
}
  where
    w : VersionRow
    w = new_version row token value moment

added_value : (row : SecretRow) (token : List ℕ) (value : Value) (moment : Moment)
    → has_version row.versions token ≡ false
    → has_value (row.versions ++ new_version row token value moment ∷ []) token ≡ true
added_value row token value moment none =
    rw (value_of_push row.versions (new_version row token value moment) token) (grind (arith, same_text_itself token))

versions_kept_added : (row : SecretRow) (token : List ℕ) (value : Value) (labels : List (List ℕ)) (moment : Moment)
    → has_version row.versions token ≡ false → will_have_current row labels ≡ true → VersionsKept row
    → VersionsKept (added_row row token value labels moment)
versions_kept_added row token value labels moment none will kept =
    let w : VersionRow = new_version row token value moment in
    let ws : List VersionRow = row.versions ++ w ∷ [] in
    let before : Sound row.versions row.labels = record { once = kept.once; named = kept.named } in
    let after : Sound ws (place_all row.labels labels token) =
    sound_place_all ws row.labels labels token (added_there row token value moment)
    (added_sound row token value moment kept) in
    record {
      once = after.once;
      named = after.named;
      ids = ids_push row.versions w kept.ids none;
      serials = serials_added row.versions w row.next_version refl kept.serials;
      current = or_right (has_none ws) _
          (current_kept row.versions ws row.labels labels token (added_keeps_values row.versions w)
          (added_value row token value moment none) before kept.current will);
    }

versions_kept_filled : (row : SecretRow) (token : List ℕ) (value : Value) (labels : List (List ℕ))
    → has_version row.versions token ≡ true → will_have_current row labels ≡ true → VersionsKept row
    → VersionsKept (filled_row row token value labels)
versions_kept_filled row token value labels there will kept =
    let ws : List VersionRow = filled row.versions token value in
    let before : Sound row.versions row.labels = record { once = kept.once; named = kept.named } in
    let start : Sound ws row.labels =
    record {
      once = kept.once;
      named =
          named_more row.versions ws row.labels (λ x h. has_version_filled row.versions token value x ∙ h) kept.named;
    } in
    let after : Sound ws (place_all row.labels labels token) =
    sound_place_all ws row.labels labels token (has_version_filled row.versions token value token ∙ there) start in
    record {
      once = after.once;
      named = after.named;
      ids = ids_filled row.versions token value ∙ kept.ids;
      serials = rw (serials_filled row.versions token value) kept.serials;
      current = or_right (has_none ws) _
          (current_kept row.versions ws row.labels labels token (has_value_filled row.versions token value)
          (has_value_there row.versions token value there) before kept.current will);
    }

job_fits_added : (row : SecretRow) (token : List ℕ) (value : Value) (labels : List (List ℕ)) (moment : Moment)
    (job : Job) → JobFits row job → JobFits (added_row row token value labels moment) job
job_fits_added row token value labels moment job fits =
    let w : VersionRow = new_version row token value moment in
    record {
      first = fits.first;
      last = fits.last;
      tested = fits.tested;
      valued = rw (has_version_push row.versions w job.token, value_of_push row.versions w job.token)
          (grind (arith, fits.valued));
    }

job_fits_filled : (row : SecretRow) (token : List ℕ) (value : Value) (labels : List (List ℕ)) (job : Job)
    → JobFits row job → JobFits (filled_row row token value labels) job
job_fits_filled row token value labels job fits = record {
  first = fits.first;
  last = fits.last;
  tested = fits.tested;
  valued = rw (has_version_filled row.versions token value job.token)
      (grind (arith, fits.valued, has_value_filled row.versions token value job.token));
}

-- a put keeps what stands before settling, where AWSCURRENT has a holder or is placed
pub put_keeps : (row : SecretRow) (token : List ℕ) (value : Value) (labels : List (List ℕ)) (moment : Moment)
    → IsTrue (will_have_current row labels) → KeptUnsettled row → KeptUnsettled (put_row row token value labels moment)
put_keeps row token value labels moment will kept = by (version_of row.versions token) refl
  where
    by : (found : Option VersionRow) → version_of row.versions token ≡ found
        → KeptUnsettled (put_row_on row token value labels moment found)
    by None e = record {
      versions = versions_kept_added row token value labels moment (version_of_none row.versions token e) will
          kept.versions;
      job = IfSome_then row.job kept.job (λ job. job_fits_added row token value labels moment job);
    }
    by (Some v) e = record {
      versions = versions_kept_filled row token value labels (version_of_some row.versions token v e).0 will
          kept.versions;
      job = IfSome_then row.job kept.job (λ job. job_fits_filled row token value labels job);
    }

-- ---- a move

pub moved_past : (id : Option (List ℕ)) (answer : Moved) → unless_missing id answer ≡ Placed → (id ≡ None)
    × (answer ≡ Placed)
moved_past None answer h = (refl, h)
moved_past (Some id) answer h = absurd (cc)

there_from : (vs : List VersionRow) (id : List ℕ) → missing vs (Some id) ≡ None → has_version vs id ≡ true
there_from vs id h = by (has_version vs id) h
  where
    by : (b : Bool) → cond b None (Some id) ≡ None → b ≡ true
    by true g = refl
    by false g = absurd (cc)

pub moved_held : (b : Bool) (answer : Moved) (held : Option (List ℕ)) → cond b answer (HeldBy held) ≡ Placed
    → answer ≡ Placed
moved_held true answer held h = h
moved_held false answer held h = absurd (cc)

taken_off : (b : Bool) → cond b KeepsCurrent Placed ≡ Placed → b ≡ false
taken_off true h = absurd (cc)
taken_off false h = refl

filled_for : (b v : Bool) (placed : Moved) (id : List ℕ) → cond b (cond v placed (Empty id)) placed ≡ Placed
    → (not b || v) ≡ true
filled_for false v placed id h = refl
filled_for true true placed id h = refl
filled_for true false placed id h = absurd (cc)

-- what an accepted move shows of its target
Accepts : SecretRow → List ℕ → Option (List ℕ) → Type 0
Accepts row label None = same_text label aws_current ≡ false
Accepts row label (Some to) =
    (has_version row.versions to ≡ true) × ((not (same_text label aws_current) || has_value row.versions to) ≡ true)

accepts_from : (row : SecretRow) (label : List ℕ) (to : Option (List ℕ)) → missing row.versions to ≡ None
    → move_to row label to ≡ Placed → Accepts row label to
unfolding Accepts
accepts_from row label None none h = taken_off (same_text label aws_current) h
accepts_from row label (Some to) none h = (
  there_from row.versions to none,
  filled_for (same_text label aws_current) (has_value row.versions to)
      (move_placed (place row.labels label to)) to h,
)

accepts_from_answer : (row : SecretRow) (label : List ℕ) (to from : Option (List ℕ))
    → move_answer row label to from ≡ Placed → Accepts row label to
accepts_from_answer row label to from h =
    let past_from = moved_past (missing row.versions from)
    (unless_missing (missing row.versions to) (move_held row label to from)) h in
    let past_to = moved_past (missing row.versions to) (move_held row label to from) past_from.1 in
    accepts_from row label to past_to.0 (moved_held _ (move_to row label to) (holder row.labels label) past_to.1)

-- the holder of AWSCURRENT after a move
moved_current : (b v none : Bool) (vs : List VersionRow) (to : List ℕ) (held : Option (List ℕ)) → v ≡ has_value vs to
    → (not b || v) ≡ true → (none || holder_has_value vs held) ≡ true
    → (none || holder_has_value vs (cond b (Some to) held)) ≡ true
moved_current true v none vs to held e filled before = or_right none _ (sym e ∙ filled)
moved_current false v none vs to held e filled before = before

versions_kept_move : (row : SecretRow) (label : List ℕ) (to : Option (List ℕ)) → Accepts row label to → VersionsKept row
    → VersionsKept (move_row row label to)
unfolding Accepts
versions_kept_move row label None other kept =
    let before : Sound row.versions row.labels = record { once = kept.once; named = kept.named } in
    let after : Sound row.versions (without row.labels label) = sound_without row.versions row.labels label before in
    record {
      once = after.once;
      named = after.named;
      ids = kept.ids;
      serials = kept.serials;
      current = rw (holder_without_other row.labels label aws_current other) kept.current;
    }
versions_kept_move row label (Some to) accepted kept =
    let before : Sound row.versions row.labels = record { once = kept.once; named = kept.named } in
    let after : Sound row.versions (place row.labels label to) =
    sound_place row.versions row.labels label to accepted.0 before in
    record {
      once = after.once;
      named = after.named;
      ids = kept.ids;
      serials = kept.serials;
      current = rw (holder_place row.labels label to)
          (moved_current (same_text label aws_current) (has_value row.versions to) (has_none row.versions) row.versions
          to (holder row.labels aws_current) refl accepted.1 kept.current);
    }

-- an accepted move keeps what stands before settling
pub move_keeps : (row : SecretRow) (label : List ℕ) (to from : Option (List ℕ)) → move_answer row label to from ≡ Placed
    → KeptUnsettled row → KeptUnsettled (move_row row label to)
move_keeps row label to from accepted kept = record {
  versions = versions_kept_move row label to (accepts_from_answer row label to from accepted) kept.versions;
  job = IfSome_then row.job kept.job (λ job fits. assumption fits);
}

-- ---- settling

create_is_no_finish : (stage : Stage) → is_create stage ≡ true → is_finish stage ≡ false
create_is_no_finish Create h = refl
create_is_no_finish Set h = refl
create_is_no_finish Test h = refl
create_is_no_finish Finish h = absurd (cc)

-- the version of a live job is there
live_there : (row : SecretRow) (job : Job) → is_live row job ≡ true → has_version row.versions job.token ≡ true
live_there row job live = grind (arith, live)

past_create : (create there valued : Bool) → there ≡ true → (create && valued) ≡ false
    → (create || not there || valued) ≡ true → valued ≡ not create
past_create true there valued t h k = h
past_create false true valued t h k = k
past_create false false valued t h k = absurd (false≢true t)

at_job : (create there valued : Bool) → valued ≡ not create → (create || not there || valued) ≡ true
at_job true there valued h = grind arith
at_job false there valued h = grind arith

job_kept_advanced : (row : SecretRow) (job : Job) → is_live row job ≡ true → JobFits row job
    → JobKept (settle row) (advanced_job row job)
job_kept_advanced row job live fits = by (is_create job.stage && has_value row.versions job.token) refl
  where
    by : (b : Bool) → b ≡ (is_create job.stage && has_value row.versions job.token)
        → JobKept (settle row) (cond b (record job { stage = Set; attempt = 1 }) job)
    by true e = record {
      live = live;
      first = omega arith;
      last = omega arith;
      tested = fits.tested ∙ create_is_no_finish job.stage
          (and_parts (is_create job.stage) (has_value row.versions job.token) (sym e)).0;
      valued = (and_parts (is_create job.stage) (has_value row.versions job.token) (sym e)).1;
    }
    by false e = record {
      live = live;
      first = fits.first;
      last = fits.last;
      tested = fits.tested;
      valued = past_create (is_create job.stage) (has_version row.versions job.token) (has_value row.versions job.token)
          (live_there row job live) (sym e) fits.valued;
    }

job_settled : (row : SecretRow) (job : Option Job) → IfSome job (JobFits row)
    → IfSome (settled_job row job) (JobKept (settle row))
job_settled row None fits = tt
job_settled row (Some job) fits = by (is_live row job) refl
  where
    by : (b : Bool) → b ≡ is_live row job → IfSome (cond b (Some (advanced_job row job)) None) (JobKept (settle row))
    by true e = job_kept_advanced row job (sym e) fits
    by false e = tt

-- what stands before settling, settled, is what holds between changes
pub settle_keeps : (row : SecretRow) → KeptUnsettled row → CurrentKept (settle row)
settle_keeps row kept = record {
  versions = assumption kept.versions;
  job = job_settled row row.job kept.job;
}

-- what holds between changes stands before settling too
pub unsettled_from_kept : (row : SecretRow) → CurrentKept row → KeptUnsettled row
unsettled_from_kept row kept = record {
  versions = kept.versions;
  job = IfSome_then row.job kept.job
      (λ job k. record {
        first = k.first;
        last = k.last;
        tested = k.tested;
        valued = at_job (is_create job.stage) (has_version row.versions job.token)
            (has_value row.versions job.token) k.valued;
      });
}

not_advanced : (row : SecretRow) (job : Job) → JobKept row job → settled_job row (Some job) ≡ Some job
not_advanced row job kept =
    rw kept.live (ap Some (by (is_create job.stage) (has_value row.versions job.token) kept.valued))
  where
    by : (create valued : Bool) → valued ≡ not create
        → cond (create && valued) (record job { stage = Set; attempt = 1 }) job ≡ job
    by true valued e = rw e
    by false valued e = refl

-- settling leaves a secret that is kept
pub settle_stays : (row : SecretRow) → CurrentKept row → settle row ≡ row
settle_stays row kept = by row.job refl kept.job
  where
    by : (job : Option Job) → job ≡ row.job → IfSome job (JobKept row) → record row { job = settled_job row job } ≡ row
    by None e k = ap (λ (j : Option Job). record row { job = j }) e
    by (Some job) e k = ap (λ (j : Option Job). record row { job = j }) (not_advanced row job k ∙ e)

-- ---- the same of the row that a call leaves

pub after_put : (added : Bool) (row new : SecretRow) (token : List ℕ) (value : Value) (labels : List (List ℕ))
    (moment : Moment) → new ≡ cond added (put_row row token value labels moment) row → KeptUnsettled row
    → IsTrue (will_have_current row labels) → KeptUnsettled new
after_put true row new token value labels moment e kept will =
    subst KeptUnsettled (sym e) (put_keeps row token value labels moment will kept)
after_put false row new token value labels moment e kept will = subst KeptUnsettled (sym e) kept

moved_is : (m : Moved) → is_moved m ≡ true → m ≡ Placed
moved_is Placed h = refl
moved_is (NotThere id) h = absurd (false≢true h)
moved_is (HeldBy held) h = absurd (false≢true h)
moved_is KeepsCurrent h = absurd (false≢true h)
moved_is (Empty id) h = absurd (false≢true h)
moved_is (TooManyLabels n) h = absurd (false≢true h)
moved_is Memory h = absurd (false≢true h)

pub after_move : (m : Moved) (row new : SecretRow) (label : List ℕ) (to from : Option (List ℕ))
    → m ≡ move_answer row label to from → new ≡ cond (is_moved m) (move_row row label to) row → KeptUnsettled row
    → KeptUnsettled new
after_move m row new label to from answer e kept = by (is_moved m) refl e
  where
    by : (b : Bool) → b ≡ is_moved m → new ≡ cond b (move_row row label to) row → KeptUnsettled new
    by true moved f = subst KeptUnsettled (sym f)
        (move_keeps row label to from (sym answer ∙ moved_is m (sym moved)) kept)
    by false moved f = subst KeptUnsettled (sym f) kept
