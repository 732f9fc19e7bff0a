-- Each attempt that a secret remembers is one at which the test accepted, after a start and after a step too.
use Rattle.std.proofs.Common.{◌≡◌, ◌≢◌, ◌⊎◌, inl, inr, ℕ, Bool, true, false, not, ◌&&◌, nat_lt, ◌+◌, ◌*◌, cond, List, [], ◌∷◌, ◌++◌, filter, Option, Some, None, is_some, IfSome, refl, sym, ap, subst, ◌∙◌}
use Rattle.std.proofs.lemmas.Bool.{and_parts, and_from, false≢true}
use Rattle.sm_base.specs.declared.moment.Moment.{Moment}
use Rattle.sm_model.specs.Bounds.{fits}
use Rattle.sm_base.specs.declared.limits.TheConstants.{ATTEMPTS_LIMIT}
use Rattle.sm_model.specs.declared.value.Value.{Value}
use Rattle.sm_model.specs.declared.entry.Answer.{Answer}
use Rattle.sm_model.specs.declared.entry.Answer.TheVariants.{Value as Made, Yes, No, Failed}
use Rattle.sm_model.specs.declared.rows.VersionRow.{VersionRow}
use Rattle.sm_model.specs.declared.rows.Job.{Job}
use Rattle.sm_model.specs.declared.rows.Stage.{Stage}
use Rattle.sm_model.specs.declared.rows.Stage.TheVariants.{Create, Set, Test, Finish}
use Rattle.sm_model.specs.declared.rows.SecretRow.{SecretRow}
use Rattle.sm_base.specs.Texts.{same_text}
use Rattle.sm_versions.specs.Versions.{value_of, has_value, filled}
use Rattle.sm_versions.specs.Settle.{is_live, is_create, advanced_job, settled_job, settle}
use Rattle.sm_versions.specs.Kept.{JobKept, CurrentKept, is_finish}
use Rattle.sm_model.specs.Versions.{When, is_kept, kept}
use Rattle.sm_versions.specs.Prune.{pruned}
use Rattle.sm_versions.proofs.PruneLaws.{value_of_filtered, pending_kept, live_held, settle_pruned}
use Rattle.sm_versions.proofs.TextLemmas.{same_text_tells}
use Rattle.sm_rotation.specs.Begin.{pending_version, begin_row}
use Rattle.sm_rotation.specs.Step.{is_yes, made_value, onward, retried, after_create, after_set, after_test, after_finish, marked, finished, step_at, step, applied_row}
use Rattle.sm_rotation.specs.Vouched.{Replies, is_accepted, is_vouched, each_vouched, is_vouched_job, RowVouched, AcceptsOnly}

no_attempt : {A : Type 0} (test : A → Bool) (o : Option A) → is_some o ≡ false → fits test o ≡ true
no_attempt test None h = refl
no_attempt test (Some a) h = absurd (cc)

-- ---- versions

pub vouched_push : (replies : Replies) (arn : List ℕ) (vs : List VersionRow) (w : VersionRow)
    → each_vouched replies arn vs ≡ true → is_vouched replies arn w ≡ true
    → each_vouched replies arn (vs ++ w ∷ []) ≡ true
vouched_push replies arn [] w each new = and_from _ _ new refl
vouched_push replies arn (v ∷ vs) w each new =
    let parts = and_parts (is_vouched replies arn v) (each_vouched replies arn vs) each in
    and_from _ _ parts.0 (vouched_push replies arn vs w parts.1 new)

-- what remembers an attempt has a value
empty_forgets : (replies : Replies) (arn id : List ℕ) (value : Option Value) (rotated : Option ℕ)
    → is_some value ≡ false → fits (is_accepted replies arn id value) rotated ≡ true → is_some rotated ≡ false
empty_forgets replies arn id None None empty h = refl
empty_forgets replies arn id None (Some attempt) empty h = absurd (false≢true h)
empty_forgets replies arn id (Some value) rotated empty h = absurd (cc)

pub vouched_filled : (replies : Replies) (arn : List ℕ) (vs : List VersionRow) (id : List ℕ) (value : Value)
    → has_value vs id ≡ false → each_vouched replies arn vs ≡ true
    → each_vouched replies arn (filled vs id value) ≡ true
vouched_filled replies arn [] id value empty each = refl
vouched_filled replies arn (v ∷ vs) id value empty each =
    let parts = and_parts (is_vouched replies arn v) (each_vouched replies arn vs) each in
    by (same_text v.id id) empty parts.0 parts.1 (λ h. vouched_filled replies arn vs id value h parts.1)
  where
    by : (b : Bool) → is_some (cond b v.value (value_of vs id)) ≡ false → is_vouched replies arn v ≡ true
        → each_vouched replies arn vs ≡ true
        → (has_value vs id ≡ false → each_vouched replies arn (filled vs id value) ≡ true)
        → each_vouched replies arn (cond b (record v { value = Some value } ∷ vs) (v ∷ filled vs id value)) ≡ true
    by true none head tail rest = and_from _ _
        (no_attempt (is_accepted replies arn v.id (Some value)) v.rotated
        (empty_forgets replies arn v.id v.value v.rotated none head)) tail
    by false none head tail rest = and_from _ _ head (rest none)

vouched_marked : (replies : Replies) (arn : List ℕ) (vs : List VersionRow) (id : List ℕ) (tested : Option ℕ)
    → fits (is_accepted replies arn id (value_of vs id)) tested ≡ true → each_vouched replies arn vs ≡ true
    → each_vouched replies arn (marked vs id tested) ≡ true
vouched_marked replies arn [] id tested job each = refl
vouched_marked replies arn (v ∷ vs) id tested job each =
    let parts = and_parts (is_vouched replies arn v) (each_vouched replies arn vs) each in
    by (same_text v.id id) (same_text_tells v.id id) job parts.0 parts.1
    (λ h. vouched_marked replies arn vs id tested h parts.1)
  where
    by : (b : Bool) → ((b ≡ true) × (v.id ≡ id)) ⊎ ((b ≡ false) × (v.id ≢ id))
        → fits (is_accepted replies arn id (cond b v.value (value_of vs id))) tested ≡ true
        → is_vouched replies arn v ≡ true → each_vouched replies arn vs ≡ true
        → (fits (is_accepted replies arn id (value_of vs id)) tested ≡ true
        → each_vouched replies arn (marked vs id tested) ≡ true)
        → each_vouched replies arn (cond b (record v { rotated = tested } ∷ vs) (v ∷ marked vs id tested)) ≡ true
    by true (inl (e, same)) here head tail rest = and_from _ _
        (subst (λ (x : List ℕ). fits (is_accepted replies arn x v.value) tested ≡ true) (sym same) here) tail
    by true (inr (e, other)) here head tail rest = absurd (cc)
    by false found here head tail rest = and_from _ _ head (rest here)

-- ---- a start

pub begin_vouched : (replies : Replies) (row : SecretRow) (token : List ℕ) (moment : Moment) → RowVouched replies row
    → RowVouched replies (begin_row row token moment)
begin_vouched replies row token moment h = record {
  versions = vouched_push replies row.arn row.versions (pending_version row token moment) h.versions refl;
  job = refl;
}

-- ---- a step

retried_vouched : (replies : Replies) (row : SecretRow) (job : Job) (moment : Moment)
    → is_vouched_job replies row job ≡ true → fits (is_vouched_job replies row) (retried job moment) ≡ true
retried_vouched replies row job moment h = by (nat_lt job.attempt ATTEMPTS_LIMIT)
  where
    by : (b : Bool) → fits (is_vouched_job replies row) (cond b
        (Some (record job { attempt = job.attempt + 1; retry_at = record { 0 = moment.0 + 60 * job.attempt } })) None)
        ≡ true
    by true = h
    by false = refl

create_vouched : (replies : Replies) (row : SecretRow) (job : Job) (moment : Moment) (value : Option Value)
    → each_vouched replies row.arn row.versions ≡ true → is_vouched_job replies row job ≡ true
    → has_value row.versions job.token ≡ false → is_some job.tested ≡ false
    → RowVouched replies (after_create row job moment value)
create_vouched replies row job moment None each vouched empty untested =
    record { versions = each; job = retried_vouched replies row job moment vouched }
create_vouched replies row job moment (Some value) each vouched empty untested = record {
  versions = vouched_filled replies row.arn row.versions job.token value empty each;
  job = no_attempt
      (is_accepted replies row.arn job.token (value_of (filled row.versions job.token value) job.token)) job.tested
      untested;
}

set_vouched : (replies : Replies) (row : SecretRow) (job : Job) (moment : Moment) (answer : Answer)
    → is_vouched_job replies row job ≡ true
    → fits (is_vouched_job replies row) (after_set job moment answer) ≡ true
set_vouched replies row job moment answer h = by (is_yes answer)
  where
    by : (b : Bool) → fits (is_vouched_job replies row)
        (cond b (Some (onward job Test moment)) (retried job moment)) ≡ true
    by true = h
    by false = retried_vouched replies row job moment h

yes_is : (answer : Answer) → is_yes answer ≡ true → answer ≡ Yes
yes_is (Made value) h = absurd (false≢true h)
yes_is Yes h = refl
yes_is No h = absurd (false≢true h)
yes_is Failed h = absurd (false≢true h)

test_vouched : (replies : Replies) (row : SecretRow) (job : Job) (moment : Moment) (answer : Answer)
    → is_vouched_job replies row job ≡ true
    → (answer ≡ Yes → is_accepted replies row.arn job.token (value_of row.versions job.token) job.attempt ≡ true)
    → fits (is_vouched_job replies row) (after_test job moment answer) ≡ true
test_vouched replies row job moment answer h accepts = by (is_yes answer) refl
  where
    by : (b : Bool) → b ≡ is_yes answer → fits (is_vouched_job replies row)
        (cond b (Some (record (onward job Finish moment) { tested = Some job.attempt })) (retried job moment)) ≡ true
    by true e = accepts (yes_is answer (sym e))
    by false e = retried_vouched replies row job moment h

finish_vouched : (replies : Replies) (row : SecretRow) (job : Job) (moment : Moment) (answer : Answer)
    → each_vouched replies row.arn row.versions ≡ true → is_vouched_job replies row job ≡ true
    → RowVouched replies (after_finish row job moment answer)
finish_vouched replies row job moment answer each h = by (is_yes answer)
  where
    by : (b : Bool) → RowVouched replies (cond b (finished row job moment) (record row { job = retried job moment }))
    by true = record {
      versions = vouched_marked replies row.arn row.versions job.token job.tested h each;
      job = refl;
    }
    by false = record { versions = each; job = retried_vouched replies row job moment h }

step_at_vouched : (replies : Replies) (row : SecretRow) (job : Job) (moment : Moment) (answer : Answer) (stage : Stage)
    → job.stage ≡ stage → JobKept row job → each_vouched replies row.arn row.versions ≡ true
    → is_vouched_job replies row job ≡ true → AcceptsOnly replies row answer job
    → RowVouched replies (step_at row job moment answer stage)
step_at_vouched replies row job moment answer Create e kept each h accepts =
    create_vouched replies row job moment (made_value answer) each h
    (kept.valued ∙ ap (λ s. not (is_create s)) e) (kept.tested ∙ ap is_finish e)
step_at_vouched replies row job moment answer Set e kept each h accepts =
    record { versions = each; job = set_vouched replies row job moment answer h }
step_at_vouched replies row job moment answer Test e kept each h accepts =
    record { versions = each; job = test_vouched replies row job moment answer h (accepts e) }
step_at_vouched replies row job moment answer Finish e kept each h accepts =
    finish_vouched replies row job moment answer each h

-- ---- settling

advanced_vouched : (replies : Replies) (row : SecretRow) (job : Job) → is_vouched_job replies row job ≡ true
    → is_vouched_job replies row (advanced_job row job) ≡ true
advanced_vouched replies row job h = by (is_create job.stage && has_value row.versions job.token)
  where
    by : (b : Bool) → is_vouched_job replies row (cond b (record job { stage = Set; attempt = 1 }) job) ≡ true
    by true = h
    by false = h

settled_vouched : (replies : Replies) (row : SecretRow) (job : Option Job)
    → fits (is_vouched_job replies row) job ≡ true → fits (is_vouched_job replies row) (settled_job row job) ≡ true
settled_vouched replies row None h = refl
settled_vouched replies row (Some job) h = by (is_live row job)
  where
    by : (b : Bool) → fits (is_vouched_job replies row) (cond b (Some (advanced_job row job)) None) ≡ true
    by true = advanced_vouched replies row job h
    by false = refl

pub settle_vouched : (replies : Replies) (row : SecretRow) → RowVouched replies row
    → RowVouched replies (settle row)
settle_vouched replies row h =
    record { versions = h.versions; job = settled_vouched replies row row.job h.job }

-- ---- old versions dropped

vouched_filtered : (replies : Replies) (arn : List ℕ) (keep : VersionRow → Bool) (vs : List VersionRow)
    → each_vouched replies arn vs ≡ true → each_vouched replies arn (filter keep vs) ≡ true
vouched_filtered replies arn keep [] each = refl
vouched_filtered replies arn keep (v ∷ vs) each =
    let parts = and_parts (is_vouched replies arn v) (each_vouched replies arn vs) each in
    by (keep v) parts.0 (vouched_filtered replies arn keep vs parts.1)
  where
    by : (b : Bool) → is_vouched replies arn v ≡ true → each_vouched replies arn (filter keep vs) ≡ true
        → each_vouched replies arn (cond b (v ∷ filter keep vs) (filter keep vs)) ≡ true
    by true head rest = and_from _ _ head rest
    by false head rest = rest

-- the version of a job that is live is kept
settled_kept : (replies : Replies) (row : SecretRow) (moment : Moment) (job : Option Job)
    → fits (is_vouched_job replies row) (settled_job row job) ≡ true
    → fits (is_vouched_job replies (kept row moment)) (settled_job row job) ≡ true
settled_kept replies row moment None h = refl
settled_kept replies row moment (Some job) h = by (is_live row job) refl h
  where
    same : is_live row job ≡ true → value_of (kept row moment).versions job.token ≡ value_of row.versions job.token
    same live = value_of_filtered (is_kept row moment) row.versions job.token
        (pending_kept row moment job.token (live_held row job live))

    advanced : (b : Bool) → is_live row job ≡ true
        → is_vouched_job replies row (cond b (record job { stage = Set; attempt = 1 }) job) ≡ true
        → is_vouched_job replies (kept row moment) (cond b (record job { stage = Set; attempt = 1 }) job) ≡ true
    advanced true live g = rw (same live) g
    advanced false live g = rw (same live) g

    by : (b : Bool) → b ≡ is_live row job
        → fits (is_vouched_job replies row) (cond b (Some (advanced_job row job)) None) ≡ true
        → fits (is_vouched_job replies (kept row moment)) (cond b (Some (advanced_job row job)) None) ≡ true
    by true e g = advanced (is_create job.stage && has_value row.versions job.token) (sym e) g
    by false e g = refl

-- versions that need not be kept are dropped from a secret before it is settled, or after that
pub prune_vouched : (replies : Replies) (row : SecretRow) (when : When) → RowVouched replies row
    → RowVouched replies (settle (pruned row when))
prune_vouched replies row when h =
    subst (λ (r : SecretRow). RowVouched replies r) (sym (settle_pruned row when)) (by when.prunes)
  where
    settled : RowVouched replies (settle row)
    settled = settle_vouched replies row h

    by : (b : Bool)
        → RowVouched replies (record (settle row) { versions = cond b (kept row when.moment).versions row.versions })
    by true = record {
      versions = vouched_filtered replies row.arn (is_kept row when.moment) row.versions settled.versions;
      job = settled_kept replies row when.moment row.job settled.job;
    }
    by false = record { versions = settled.versions; job = settled.job }

-- ---- an answer

applied_vouched_on : (replies : Replies) (row : SecretRow) (job : Option Job) (answer : Answer) (moment : Moment)
    → IfSome job (JobKept row) → RowVouched replies row → fits (is_vouched_job replies row) job ≡ true
    → IfSome job (AcceptsOnly replies row answer) → RowVouched replies (applied_row row job answer moment)
applied_vouched_on replies row None answer moment kept h vouched accepts = h
applied_vouched_on replies row (Some job) answer moment kept h vouched accepts =
    settle_vouched replies (step row job answer moment)
    (step_at_vouched replies row job moment answer job.stage refl kept h.versions vouched accepts)

pub applied_vouched : (replies : Replies) (row : SecretRow) (answer : Answer) (moment : Moment) → CurrentKept row
    → RowVouched replies row → IfSome row.job (AcceptsOnly replies row answer)
    → RowVouched replies (applied_row row row.job answer moment)
applied_vouched replies row answer moment kept h accepts =
    applied_vouched_on replies row row.job answer moment kept.job h h.job accepts
