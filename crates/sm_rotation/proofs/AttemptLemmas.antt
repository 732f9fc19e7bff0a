-- Each attempt that a secret remembers stays one at which the test accepted, where it is not its rotation that changes
-- the secret.
use Rattle.std.proofs.Common.{◌≡◌, ℕ, Bool, true, false, not, cond, List, [], ◌∷◌, ◌++◌, Option, Some, None, is_some, IfSome, refl, sym, ap, subst, ◌∙◌, arith}
use Rattle.std.proofs.lemmas.Bool.{false≢true}
use Rattle.std.proofs.lemmas.Grind.{common_steps}
use Rattle.sm_base.specs.declared.moment.Moment.{Moment}
use Rattle.sm_model.specs.Bounds.{fits}
use Rattle.sm_model.specs.declared.value.Value.{Value}
use Rattle.sm_model.specs.declared.rows.VersionRow.{VersionRow}
use Rattle.sm_model.specs.declared.rows.Job.{Job}
use Rattle.sm_model.specs.declared.rows.Stage.{Stage}
use Rattle.sm_model.specs.declared.rows.Stage.TheVariants.{Create, Set, Test, Finish}
use Rattle.sm_model.specs.declared.rows.SecretRow.{SecretRow}
use Rattle.sm_versions.specs.declared.values.PutDone.TheVariants.{Added, Same, Exists}
use Rattle.sm_base.specs.Texts.{same_text}
use Rattle.sm_versions.specs.Labels.{labels_on}
use Rattle.sm_versions.specs.Versions.{has_value, value_of, version_of, same_value, filled}
use Rattle.sm_model.specs.Versions.{When, has_version}
use Rattle.sm_versions.specs.Settle.{is_live, is_create}
use Rattle.sm_versions.specs.Put.{put_held, put_answer, put_answer_on, new_version, added_row, filled_row, put_row, put_row_on}
use Rattle.sm_versions.specs.Kept.{JobKept, CurrentKept, is_finish}
use Rattle.sm_versions.proofs.ValueLemmas.{value_of_push, version_of_some}
use Rattle.sm_rotation.specs.Vouched.{Replies, is_accepted, is_vouched_job, RowVouched}
use Rattle.sm_rotation.proofs.VouchedLemmas.{vouched_push, vouched_filled}

-- ---- a change of other parts

-- the parts that count stay: the ARN, the versions and the job
pub record SameAttempts (row next : SecretRow) : Type 0 where
  pub arn : next.arn ≡ row.arn
  pub versions : next.versions ≡ row.versions
  pub job : next.job ≡ row.job

same_job : (replies : Replies) (row next : SecretRow) (job : Option Job) → SameAttempts row next
    → fits (is_vouched_job replies row) job ≡ true → fits (is_vouched_job replies next) job ≡ true
same_job replies row next None same h = refl
same_job replies row next (Some job) same h = rw (same.arn, same.versions) h

-- a change of other parts
pub same_vouched : (replies : Replies) (row next : SecretRow) → SameAttempts row next → RowVouched replies row
    → RowVouched replies next
same_vouched replies row next same h = record {
  versions = rw (same.arn, same.versions) h.versions;
  job = subst (λ (o : Option Job). fits (is_vouched_job replies next) o ≡ true) (sym same.job)
      (same_job replies row next row.job same h.job);
}

-- ---- a new value

-- the value of a version that is there stays, where another is added
value_pushed : (vs : List VersionRow) (w : VersionRow) (id : List ℕ) → has_version vs id ≡ true
    → value_of (vs ++ w ∷ []) id ≡ value_of vs id
value_pushed vs w id there =
    value_of_push vs w id ∙ ap (λ b. cond b (value_of vs id) (cond (same_text w.id id) w.value None)) there

-- the value of a version that has one stays, where one that has none is filled
value_kept : (vs : List VersionRow) (id other : List ℕ) (value : Value) → has_value vs id ≡ false
    → has_value vs other ≡ true → value_of (filled vs id value) other ≡ value_of vs other
value_kept [] id other value empty there = refl
value_kept (v ∷ vs) id other value empty there =
    grind (arith, common_steps, value_kept vs id other value)

job_pushed : (replies : Replies) (row : SecretRow) (token : List ℕ) (value : Value) (labels : List (List ℕ))
    (moment : Moment) (job : Option Job) → IfSome job (JobKept row) → fits (is_vouched_job replies row) job ≡ true
    → fits (is_vouched_job replies (added_row row token value labels moment)) job ≡ true
job_pushed replies row token value labels moment None kept h = refl
job_pushed replies row token value labels moment (Some job) kept h =
    let live : is_live row job ≡ true = kept.live in
    let there : has_version row.versions job.token ≡ true = grind (arith, live) in
    rw (value_pushed row.versions (new_version row token value moment) job.token there) h

finish_is_past : (stage : Stage) → is_finish stage ≡ true → not (is_create stage) ≡ true
finish_is_past Create h = absurd (false≢true h)
finish_is_past Set h = refl
finish_is_past Test h = refl
finish_is_past Finish h = refl

-- a job that remembers an attempt is at finishSecret, and its version has a value, so it is not the one that is filled
job_filled : (replies : Replies) (row : SecretRow) (token : List ℕ) (value : Value) (labels : List (List ℕ))
    (job : Option Job) → has_value row.versions token ≡ false → IfSome job (JobKept row)
    → fits (is_vouched_job replies row) job ≡ true
    → fits (is_vouched_job replies (filled_row row token value labels)) job ≡ true
job_filled replies row token value labels None empty kept h = refl
job_filled replies row token value labels (Some job) empty kept h = by job.tested kept.tested h
  where
    by : (tested : Option ℕ) → is_some tested ≡ is_finish job.stage
        → fits (is_accepted replies row.arn job.token (value_of row.versions job.token)) tested ≡ true
        → fits (is_accepted replies row.arn job.token (value_of (filled row.versions token value) job.token)) tested
        ≡ true
    by None e g = refl
    by (Some attempt) e g =
        let valued : has_value row.versions job.token ≡ true = kept.valued ∙ finish_is_past job.stage (sym e) in
        rw (value_kept row.versions token job.token value empty valued) g

no_repeat : (same : Bool) (labels : List (List ℕ)) → cond same (Same labels) Exists ≡ Added → ⊥
no_repeat true labels h = absurd (cc)
no_repeat false labels h = absurd (cc)

-- a put fills a version only where it has no value
fills_empty : (row : SecretRow) (token : List ℕ) (value : Value) (labels : List (List ℕ)) (kept : Option Value)
    → put_held row token value labels kept ≡ Added → is_some kept ≡ false
fills_empty row token value labels None h = refl
fills_empty row token value labels (Some kept) h =
    absurd (no_repeat (same_value kept value) (labels_on row.labels token) h)

put_vouched_on : (replies : Replies) (row : SecretRow) (token : List ℕ) (value : Value) (labels : List (List ℕ))
    (when : When) (found : Option VersionRow) → version_of row.versions token ≡ found
    → put_answer_on row token value labels when found ≡ Added → CurrentKept row → RowVouched replies row
    → RowVouched replies (put_row_on row token value labels when.moment found)
put_vouched_on replies row token value labels when None e done kept h = record {
  versions = vouched_push replies row.arn row.versions (new_version row token value when.moment) h.versions refl;
  job = job_pushed replies row token value labels when.moment row.job kept.job h.job;
}
put_vouched_on replies row token value labels when (Some version) e done kept h =
    let empty : has_value row.versions token ≡ false =
    ap is_some (version_of_some row.versions token version e).1
    ∙ fills_empty row token value labels version.value done in
    record {
      versions = vouched_filled replies row.arn row.versions token value empty h.versions;
      job = job_filled replies row token value labels row.job empty kept.job h.job;
    }

-- a put that is done
pub put_vouched : (replies : Replies) (row : SecretRow) (token : List ℕ) (value : Value) (labels : List (List ℕ))
    (when : When) → put_answer row token value labels when ≡ Added → CurrentKept row → RowVouched replies row
    → RowVouched replies (put_row row token value labels when.moment)
put_vouched replies row token value labels when done kept h =
    put_vouched_on replies row token value labels when (version_of row.versions token) refl done kept h
