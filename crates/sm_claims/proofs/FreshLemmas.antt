-- What a verdict that holds tells of the secret.
use Rattle.std.proofs.Common.{◌≡◌, ℕ, ◌≤◌, leb, eqb, Bool, true, false, ◌&&◌, List, Option, Some, None, is_some, IfSome, IsTrue, refl, sym, ap, ◌∙◌, subst, arith}
use Rattle.std.specs.Prelude.{nat_eq}
use Rattle.std.proofs.lemmas.Bool.{and_parts, and_from}
use Rattle.std.proofs.lemmas.Bool.Decides.{nat_tests}
use Rattle.std.specs.Option.{option_and_then}
use Rattle.sm_model.specs.Bounds.{is_attempt}
use Rattle.sm_model.specs.declared.entry.Answer.{Answer}
use Rattle.sm_model.specs.declared.entry.Answer.TheVariants.{Yes}
use Rattle.sm_model.specs.declared.entry.At.{At}
use Rattle.sm_model.specs.declared.rows.Job.{Job}
use Rattle.sm_model.specs.declared.rows.SecretRow.{SecretRow}
use Rattle.sm_model.specs.declared.rows.Stage.{Stage}
use Rattle.sm_model.specs.declared.rows.Stage.TheVariants.{Test}
use Rattle.sm_model.specs.declared.rows.VersionRow.{VersionRow}
use Rattle.sm_model.specs.declared.value.Value.{Value}
use Rattle.sm_versions.specs.Kept.{JobKept}
use Rattle.sm_versions.specs.Sound.{RowSound}
use Rattle.sm_versions.specs.Versions.{same_value, value_of, version_of}
use Rattle.sm_versions.proofs.VersionLemmas.{same_value_decides, value_of_is}
use Rattle.sm_rotation.specs.Step.{at_of, is_at}
use Rattle.sm_rotation.specs.Vouched.{AcceptsOnly, Replies, is_accepted}
use Rattle.sm_rotation.proofs.StepLemmas.{is_at_tells}
use Rattle.sm_rotator.specs.Steps.{needs_current, needs_pending}
use Rattle.sm_rotator.specs.declared.work.Work.{Work}
use Rattle.sm_claims.specs.Fresh.{is_fresh, is_job_of, is_version_of, same_values}

-- the secret has a job, which is at the work's step, and its version is the work's
pub record FreshJob (row : SecretRow) (work : Work) : Type 0 where
  pub job : Job
  pub its : row.job ≡ Some job
  pub at : is_at job work.at ≡ true
  pub version : is_version_of (version_of row.versions job.token) work ≡ true

pub fresh_job : (row : SecretRow) (work : Work) → is_fresh (Some row) work ≡ true → FreshJob row work
fresh_job row work fresh =
    by row.job refl (and_parts (nat_eq row.serial work.secret) (is_job_of row row.job work) fresh).1
  where
    by : (job : Option Job) → row.job ≡ job → is_job_of row job work ≡ true → FreshJob row work
    by None its is = absurd (cc)
    by (Some job) its is =
        let parts = and_parts (is_at job work.at) (is_version_of (version_of row.versions job.token) work) is in
        record { job = job; its = its; at = parts.0; version = parts.1 }

module _ (row : SecretRow) (work : Work) (fresh : is_fresh (Some row) work ≡ true) where
  -- the attempt is one that an entry may have
  pub fresh_attempt : RowSound row → is_attempt work.at.attempt ≡ true
  fresh_attempt sound =
      let f = fresh_job row work fresh in
      let kept : JobKept row f.job = subst (λ j. IfSome j (JobKept row)) f.its sound.kept.job in
      let same : at_of f.job ≡ work.at = (is_at_tells f.job work.at (is_at f.job work.at) refl).0 f.at in
      let attempt : f.job.attempt ≡ work.at.attempt = ap (λ (a : At). a.attempt) same in
      let first = kept.first in
      let last = kept.last in
      grind (arith, nat_tests)

held_value : (found : Option VersionRow) (work : Work) → is_version_of found work ≡ true
    → option_and_then (λ (v : VersionRow). v.value) found ≡ work.pending
held_value None work is = absurd (cc)
held_value (Some version) work is =
    by version.value work.pending (and_parts (nat_eq version.serial work.version)
    (same_values version.value work.pending) is).1
  where
    by : (a b : Option Value) → same_values a b ≡ true → a ≡ b
    by None None h = refl
    by None (Some b) h = absurd (cc)
    by (Some a) None h = absurd (cc)
    by (Some a) (Some b) h = ap Some ((same_value_decides a b).0 h)

-- an answer that a rotator may give to the work accepts only what the rotator may accept
pub fresh_accepts : (replies : Replies) (row : SecretRow) (work : Work) (answer : Answer)
    → is_fresh (Some row) work ≡ true → row.arn ≡ work.arn
    → replies work.arn work.at work.current work.pending answer ≡ true
    → IfSome row.job (AcceptsOnly replies row answer)
fresh_accepts replies row work answer fresh arn allowed =
    let f = fresh_job row work fresh in
    subst (λ (j : Option Job). IfSome j (AcceptsOnly replies row answer)) (sym f.its)
    (accepted f.job f.at f.version)
  where
    step : Job → At
    step job = record { token = job.token; stage = Test; attempt = job.attempt }

    there : (job : Job) (value : Option Value) → work.pending ≡ value → is_some value ≡ true → step job ≡ work.at
        → work.current ≡ None → answer ≡ Yes → is_accepted replies row.arn job.token value job.attempt ≡ true
    there job None pending some at current is = absurd (cc)
    there job (Some value) pending some at current is =
        let same : replies row.arn (step job) None (Some value) Yes
        ≡ replies work.arn work.at work.current work.pending answer = cc in
        same ∙ allowed

    none : (current : Option Value) → is_some current ≡ false → current ≡ None
    none None h = refl
    none (Some value) h = absurd (cc)

    accepted : (job : Job) → is_at job work.at ≡ true → is_version_of (version_of row.versions job.token) work ≡ true
        → AcceptsOnly replies row answer job
    accepted job at version stage is =
        let same : at_of job ≡ work.at = (is_at_tells job work.at (is_at job work.at) refl).0 at in
        let test : work.at.stage ≡ Test = ap (λ (a : At). a.stage) (sym same) ∙ stage in
        let there_at : step job ≡ work.at = ap (λ s. record { token = job.token; stage = s; attempt = job.attempt })
        (sym stage) ∙ same in
        let value : value_of row.versions job.token ≡ work.pending = value_of_is row.versions job.token
        ∙ held_value (version_of row.versions job.token) work version in
        subst (λ (o : Option Value). is_accepted replies row.arn job.token o job.attempt ≡ true) (sym value)
        (there job work.pending refl (work.pending_there ∙ ap needs_pending test) there_at
        (none work.current (work.current_there ∙ ap needs_current test)) is)
