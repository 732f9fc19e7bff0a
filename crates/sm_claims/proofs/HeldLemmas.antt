-- A verdict on a step that is ready holds at the same rows, at each later moment.
use Rattle.std.proofs.Common.{◌≡◌, ◌≢◌, ℕ, eqb, Bool, true, false, not, ◌&&◌, cond, List, [], ◌∷◌, Option, Some, None, is_some, is_none, IfSome, IsSomeAnd, option_map, refl, sym, ap, ◌∙◌, subst, inl, inr}
use Rattle.std.specs.Prelude.{nat_eq, nat_le}
use Rattle.std.specs.Option.{option_and_then}
use Rattle.std.proofs.lemmas.Bool.{and_parts, and_from, eq-eqb}
use Rattle.sm_base.specs.declared.moment.Moment.{Moment}
use Rattle.sm_model.specs.declared.entry.Mark.{Mark}
use Rattle.sm_model.specs.declared.rows.Job.{Job}
use Rattle.sm_model.specs.declared.rows.Rows.{Rows}
use Rattle.sm_model.specs.declared.rows.SecretRow.{SecretRow}
use Rattle.sm_model.specs.declared.rows.Stage.{Stage}
use Rattle.sm_model.specs.declared.rows.Stage.TheVariants.{Create, Set, Test, Finish}
use Rattle.sm_model.specs.declared.rows.VersionRow.{VersionRow}
use Rattle.sm_model.specs.declared.value.Value.{Value}
use Rattle.sm_versions.specs.Kept.{JobKept}
use Rattle.sm_model.specs.Labels.{holder, is_held_by, aws_current, aws_pending}
use Rattle.sm_versions.specs.Settle.{is_create, is_live}
use Rattle.sm_versions.specs.Sound.{RowSound}
use Rattle.sm_versions.specs.Versions.{has_value, same_value, value_of, version_of}
use Rattle.sm_model.specs.Versions.{has_version}
use Rattle.sm_versions.proofs.VersionLemmas.{same_value_decides, value_of_is}
use Rattle.sm_table.specs.Found.{found_arn}
use Rattle.sm_table.specs.Sound.{Sound}
use Rattle.sm_table.specs.Sweep.{is_gone}
use Rattle.sm_table.proofs.FoundLaws.{IsIn}
use Rattle.sm_rotation.specs.Step.{at_of, is_at}
use Rattle.sm_rotation.proofs.StepLemmas.{is_at_tells}
use Rattle.sm_rotator.specs.Steps.{needs_pending}
use Rattle.sm_rotator.specs.declared.work.Work.{Work}
use Rattle.sm_claims.specs.Claims.{is_claimed}
use Rattle.sm_claims.specs.Fresh.{is_fresh, is_job_of, is_version_of, same_values}
use Rattle.sm_claims.specs.Ready.{first_ready, is_ready}
use Rattle.sm_claims.specs.Works.{IsWorkOf, IsWorkOfJob, value_if}
use Rattle.sm_claims.proofs.ArnLemmas.{found_in, not_deleted, sound_in}

-- the first that is ready is one of the secrets
ready_in : (rows : List SecretRow) (history : List (ℕ × Mark)) (moment : Moment) (row : SecretRow)
    → first_ready history moment rows ≡ Some row → IsIn rows row
ready_in [] history moment row e = absurd (cc)
ready_in (r ∷ rows) history moment row e = by (is_ready history moment r) e (ready_in rows history moment row)
  where
    by : (b : Bool) → cond b (Some r) (first_ready history moment rows) ≡ Some row
        → (first_ready history moment rows ≡ Some row → IsIn rows row) → IsIn (r ∷ rows) row
    by true some others = inl (cc)
    by false some others = inr (others some)

same_values_itself : (value : Option Value) → same_values value value ≡ true
same_values_itself None = refl
same_values_itself (Some value) = (same_value_decides value value).1 refl

no_value : (value : Option Value) → is_some value ≡ false → value ≡ None
no_value None h = refl
no_value (Some value) h = absurd (cc)

-- the value that a rotator is given to test is the version's, where there is one
pending_is : (stage : Stage) (value : Option Value) → is_some value ≡ not (is_create stage)
    → value_if (needs_pending stage) value ≡ value
pending_is Create value h = sym (no_value value h)
pending_is Set value h = refl
pending_is Test value h = refl
pending_is Finish value h = refl

module _ (row : SecretRow) (job : Job) (work : Work) (sound : RowSound row) (its : row.job ≡ Some job)
    (is : IsWorkOfJob row job work) where
  job_kept : JobKept row job
  job_kept = subst (λ j. IfSome j (JobKept row)) its sound.kept.job

  pub stays_there : (moment : Moment) → is_gone row moment ≡ false
  stays_there moment =
      let pending : Bool = is_held_by (holder row.labels aws_pending) job.token in
      let current : Bool = is_held_by (holder row.labels aws_current) job.token in
      let first = and_parts (is_none row.deletion && has_version row.versions job.token && pending) (not current)
      job_kept.live in
      let second = and_parts (is_none row.deletion && has_version row.versions job.token) pending first.0 in
      not_deleted row moment row.deletion (and_parts (is_none row.deletion) (has_version row.versions job.token)
      second.0).0

  version_holds : (found : Option VersionRow) → found ≡ version_of row.versions job.token
      → is_version_of found work ≡ true
  version_holds None e =
      absurd
      (let never : None ≡ Some work.version = ap (option_map (λ (v : VersionRow). v.serial)) e ∙ is.version in cc)
  version_holds (Some version) e =
      let serial : Some version.serial ≡ Some work.version = ap (option_map (λ (v : VersionRow). v.serial)) e
      ∙ is.version in
      let value : version.value ≡ value_of row.versions job.token = ap (option_and_then (λ (v : VersionRow). v.value)) e
      ∙ sym (value_of_is row.versions job.token) in
      let pending : work.pending ≡ version.value = is.pending
      ∙ pending_is job.stage (value_of row.versions job.token) job_kept.valued ∙ sym value in
      and_from (nat_eq version.serial work.version) (same_values version.value work.pending)
      (eq-eqb version.serial work.version (cc))
      (ap (same_values version.value) pending ∙ same_values_itself version.value)

  pub job_holds : is_fresh (Some row) work ≡ true
  job_holds =
      and_from (nat_eq row.serial work.secret) (is_job_of row row.job work)
      (eq-eqb row.serial work.secret (sym is.secret))
      (ap (λ j. is_job_of row j work) its
      ∙ and_from (is_at job work.at) (is_version_of (version_of row.versions job.token) work)
      ((is_at_tells job work.at (is_at job work.at) refl).1 (sym is.at))
      (version_holds (version_of row.versions job.token) refl))

  pub found_there : (rows : Rows) (moment : Moment) → Sound rows → IsIn rows.secrets row
      → is_fresh (found_arn rows moment work.arn) work ≡ true
  found_there rows moment all there =
      let found : found_arn rows moment work.arn ≡ Some row = ap (found_arn rows moment) is.arn
      ∙ found_in rows.secrets moment row all.names all.each there (stays_there moment) in
      ap (λ o. is_fresh o work) found ∙ job_holds

-- the work of the first secret that is ready
pub ready_holds : (rows : Rows) (history : List (ℕ × Mark)) (moment later : Moment) (work : Work) → Sound rows
    → IsSomeAnd (first_ready history moment rows.secrets) (λ row. IsWorkOf row work)
    → is_fresh (found_arn rows later work.arn) work ≡ true
ready_holds rows history moment later work sound is = of (first_ready history moment rows.secrets) refl is
  where
    of_job : (row : SecretRow) (job : Option Job) → row.job ≡ job → IsIn rows.secrets row
        → IsSomeAnd job (λ j. IsWorkOfJob row j work) → is_fresh (found_arn rows later work.arn) work ≡ true
    of_job row None its there h = absurd h
    of_job row (Some job) its there h =
        found_there row job work (sound_in rows.secrets row sound.each there) its h rows later sound there

    of : (found : Option SecretRow) → first_ready history moment rows.secrets ≡ found
        → IsSomeAnd found (λ row. IsWorkOf row work) → is_fresh (found_arn rows later work.arn) work ≡ true
    of None e h = absurd h
    of (Some row) e h = of_job row row.job refl (ready_in rows.secrets history moment row e) h
