-- Each version of a secret and its value stay where one is added, an empty one is filled, or one remembers an attempt.
use Rattle.std.proofs.Common.{◌≡◌, ℕ, Bool, true, false, not, ◌||◌, cond, List, [], ◌∷◌, ◌++◌, Option, Some, None, is_some, IfSome, refl, ap, ◌∙◌, arith}
use Rattle.std.proofs.lemmas.Grind.{common_steps}
use Rattle.sm_base.specs.declared.moment.Moment.{Moment}
use Rattle.sm_base.specs.Texts.{same_text}
use Rattle.sm_model.specs.declared.entry.Answer.{Answer}
use Rattle.sm_model.specs.declared.rows.Job.{Job}
use Rattle.sm_model.specs.declared.rows.SecretRow.{SecretRow}
use Rattle.sm_model.specs.declared.rows.Stage.{Stage}
use Rattle.sm_model.specs.declared.rows.Stage.TheVariants.{Create, Set, Test, Finish}
use Rattle.sm_model.specs.declared.rows.VersionRow.{VersionRow}
use Rattle.sm_model.specs.declared.value.Value.{Value}
use Rattle.sm_model.specs.Versions.{When, has_version}
use Rattle.sm_versions.specs.declared.values.PutDone.TheVariants.{Added, Same, Exists}
use Rattle.sm_versions.specs.Kept.{CurrentKept, JobKept}
use Rattle.sm_versions.specs.Labels.{labels_on}
use Rattle.sm_versions.specs.Put.{put_held, put_answer_on, put_answer, new_version, put_row_on, put_row}
use Rattle.sm_versions.specs.Settle.{is_create}
use Rattle.sm_versions.specs.Versions.{same_value, version_of, value_of, has_value, filled}
use Rattle.sm_versions.proofs.ValueLemmas.{has_version_filled, has_version_push, value_of_push, has_value_named, version_of_some}
use Rattle.sm_rotation.specs.Begin.{pending_version, begin_row}
use Rattle.sm_rotation.specs.Step.{is_yes, made_value, retried, after_create, after_finish, marked, finished, step_at, applied_row}
use Rattle.sm_rotation.proofs.MarkLemmas.{has_version_marked, value_of_marked}

-- ---- versions

-- each version that was there is there, and each value that a version had it has
pub record AllStay (old new : List VersionRow) : Type 0 where
  pub there : (token : List ℕ) → has_version old token ≡ true → has_version new token ≡ true
  pub valued : (token : List ℕ) (value : Value) → value_of old token ≡ Some value → value_of new token ≡ Some value

pub stay_same : (versions : List VersionRow) → AllStay versions versions
stay_same versions = record { there = λ token h. h; valued = λ token value e. e }

pub stay_on : (old mid new : List VersionRow) → AllStay old mid → AllStay mid new → AllStay old new
stay_on old mid new first second = record {
  there = λ token h. second.there token (first.there token h);
  valued = λ token value e. second.valued token value (first.valued token value e);
}

-- one is added
pushed_there : (versions : List VersionRow) (version : VersionRow) (token : List ℕ) → has_version versions token ≡ true
    → has_version (versions ++ version ∷ []) token ≡ true
pushed_there versions version token h =
    has_version_push versions version token ∙ ap (λ b. b || same_text version.id token) h

pushed_value : (versions : List VersionRow) (version : VersionRow) (token : List ℕ) (value : Value)
    → value_of versions token ≡ Some value → value_of (versions ++ version ∷ []) token ≡ Some value
pushed_value versions version token value e =
    value_of_push versions version token
    ∙ ap (λ b. cond b (value_of versions token) (cond (same_text version.id token) version.value None))
    (has_value_named versions token (ap is_some e))
    ∙ e

stay_pushed : (versions : List VersionRow) (version : VersionRow) → AllStay versions (versions ++ version ∷ [])
stay_pushed versions version =
    record { there = pushed_there versions version; valued = pushed_value versions version }

-- an empty one is filled
filled_value : (versions : List VersionRow) (id : List ℕ) (given : Value) (token : List ℕ) (value : Value)
    → has_value versions id ≡ false → value_of versions token ≡ Some value
    → value_of (filled versions id given) token ≡ Some value
filled_value [] id given token value empty e = e
filled_value (v ∷ vs) id given token value empty e =
    grind (arith, common_steps, filled_value vs id given token value)

stay_filled : (versions : List VersionRow) (id : List ℕ) (given : Value) → has_value versions id ≡ false
    → AllStay versions (filled versions id given)
stay_filled versions id given empty = record {
  there = λ token h. has_version_filled versions id given token ∙ h;
  valued = λ token value e. filled_value versions id given token value empty e;
}

-- one remembers an attempt
stay_marked : (versions : List VersionRow) (id : List ℕ) (tested : Option ℕ)
    → AllStay versions (marked versions id tested)
stay_marked versions id tested = record {
  there = λ token h. has_version_marked versions id tested token ∙ h;
  valued = λ token value e. value_of_marked versions id tested token ∙ e;
}

-- ---- rows

-- it is the same secret, and its versions stay
pub record RowStays (row next : SecretRow) : Type 0 where
  pub serial : next.serial ≡ row.serial
  pub versions : AllStay row.versions next.versions

-- a start
pub begin_stays : (row : SecretRow) (token : List ℕ) (moment : Moment) → RowStays row (begin_row row token moment)
begin_stays row token moment =
    record { serial = refl; versions = stay_pushed row.versions (pending_version row token moment) }

-- a put fills a version only where it has no value
no_repeat : (same : Bool) (labels : List (List ℕ)) → cond same (Same labels) Exists ≡ Added → ⊥
no_repeat true labels h = absurd (cc)
no_repeat false labels h = absurd (cc)

fills_empty : (row : SecretRow) (token : List ℕ) (value : Value) (labels : List (List ℕ)) (kept : Option Value)
    → put_held row token value labels kept ≡ Added → is_some kept ≡ false
fills_empty row token value labels None h = refl
fills_empty row token value labels (Some kept) h =
    absurd (no_repeat (same_value kept value) (labels_on row.labels token) h)

put_stays_on : (row : SecretRow) (token : List ℕ) (value : Value) (labels : List (List ℕ)) (when : When)
    (held : Option VersionRow) → version_of row.versions token ≡ held
    → put_answer_on row token value labels when held ≡ Added
    → RowStays row (put_row_on row token value labels when.moment held)
put_stays_on row token value labels when None e done =
    record { serial = refl; versions = stay_pushed row.versions (new_version row token value when.moment) }
put_stays_on row token value labels when (Some version) e done =
    let empty : has_value row.versions token ≡ false =
    ap is_some (version_of_some row.versions token version e).1
    ∙ fills_empty row token value labels version.value done in
    record { serial = refl; versions = stay_filled row.versions token value empty }

-- a put that is done
pub put_stays : (row : SecretRow) (token : List ℕ) (value : Value) (labels : List (List ℕ)) (when : When)
    → put_answer row token value labels when ≡ Added → RowStays row (put_row row token value labels when.moment)
put_stays row token value labels when done =
    put_stays_on row token value labels when (version_of row.versions token) refl done

-- an answer to createSecret
created_stays : (row : SecretRow) (job : Job) (moment : Moment) (value : Option Value)
    → has_value row.versions job.token ≡ false → RowStays row (after_create row job moment value)
created_stays row job moment None empty = record { serial = refl; versions = stay_same row.versions }
created_stays row job moment (Some value) empty =
    record { serial = refl; versions = stay_filled row.versions job.token value empty }

-- an answer to finishSecret
finished_stays : (row : SecretRow) (job : Job) (moment : Moment) (answer : Answer)
    → RowStays row (after_finish row job moment answer)
finished_stays row job moment answer = by (is_yes answer)
  where
    by : (yes : Bool) → RowStays row (cond yes (finished row job moment) (record row { job = retried job moment }))
    by true = record { serial = refl; versions = stay_marked row.versions job.token job.tested }
    by false = record { serial = refl; versions = stay_same row.versions }

step_stays : (row : SecretRow) (job : Job) (moment : Moment) (answer : Answer) (stage : Stage) → job.stage ≡ stage
    → JobKept row job → RowStays row (step_at row job moment answer stage)
step_stays row job moment answer Create e kept =
    created_stays row job moment (made_value answer) (kept.valued ∙ ap (λ s. not (is_create s)) e)
step_stays row job moment answer Set e kept = record { serial = refl; versions = stay_same row.versions }
step_stays row job moment answer Test e kept = record { serial = refl; versions = stay_same row.versions }
step_stays row job moment answer Finish e kept = finished_stays row job moment answer

applied_stays_on : (row : SecretRow) (job : Option Job) (answer : Answer) (moment : Moment)
    → IfSome job (JobKept row) → RowStays row (applied_row row job answer moment)
applied_stays_on row None answer moment kept = record { serial = refl; versions = stay_same row.versions }
applied_stays_on row (Some job) answer moment kept =
    let step = step_stays row job moment answer job.stage refl kept in
    record { serial = step.serial; versions = step.versions }

-- an answer to a step
pub applied_stays : (row : SecretRow) (answer : Answer) (moment : Moment) → CurrentKept row
    → RowStays row (applied_row row row.job answer moment)
applied_stays row answer moment kept = applied_stays_on row row.job answer moment kept.job
