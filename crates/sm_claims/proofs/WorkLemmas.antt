-- The values that a step needs are there.
use Rattle.std.proofs.Common.{◌≡◌, ℕ, Bool, true, false, not, ◌&&◌, ◌||◌, List, [], ◌∷◌, Option, Some, None, is_some, is_none, IfSome, refl, sym, ap, ◌∙◌, subst}
use Rattle.std.proofs.lemmas.Bool.{and_parts}
use Rattle.sm_model.specs.declared.rows.Job.{Job}
use Rattle.sm_model.specs.declared.rows.SecretRow.{SecretRow}
use Rattle.sm_model.specs.declared.rows.Stage.{Stage}
use Rattle.sm_model.specs.declared.rows.Stage.TheVariants.{Create, Set, Test, Finish}
use Rattle.sm_model.specs.declared.rows.VersionRow.{VersionRow}
use Rattle.sm_model.specs.declared.value.Value.{Value}
use Rattle.sm_versions.specs.Kept.{JobKept, has_none, has_current_value, holder_has_value}
use Rattle.sm_model.specs.Labels.{holder, is_held_by, aws_current, aws_pending}
use Rattle.sm_versions.specs.Settle.{is_create}
use Rattle.sm_versions.specs.Sound.{RowSound}
use Rattle.sm_versions.specs.Versions.{value_of, version_of}
use Rattle.sm_model.specs.Versions.{has_version}
use Rattle.sm_versions.proofs.VersionLemmas.{has_version_is_some}
use Rattle.sm_rotator.specs.Steps.{needs_current, needs_pending}
use Rattle.sm_claims.specs.Works.{current_value, value_held, value_if}

has_some : (versions : List VersionRow) (id : List ℕ) → has_version versions id ≡ true → has_none versions ≡ false
has_some [] id h = absurd (cc)
has_some (v ∷ vs) id h = refl

held_there : (versions : List VersionRow) (held : Option (List ℕ)) → holder_has_value versions held ≡ true
    → is_some (value_held versions held) ≡ true
held_there versions None h = absurd (cc)
held_there versions (Some id) h = h

wanted_there : (wanted : Bool) (value : Option Value) → (wanted ≡ true → is_some value ≡ true)
    → is_some (value_if wanted value) ≡ wanted
wanted_there true value h = h refl
wanted_there false value h = refl

pending_from_set : (stage : Stage) → needs_pending stage ≡ not (is_create stage)
pending_from_set Create = refl
pending_from_set Set = refl
pending_from_set Test = refl
pending_from_set Finish = refl

module _ (row : SecretRow) (job : Job) (sound : RowSound row) (its : row.job ≡ Some job) where
  job_kept : JobKept row job
  job_kept = subst (λ j. IfSome j (JobKept row)) its sound.kept.job

  has_its : has_version row.versions job.token ≡ true
  has_its =
      let held : Bool = is_held_by (holder row.labels aws_pending) job.token in
      let current : Bool = is_held_by (holder row.labels aws_current) job.token in
      let first = and_parts (is_none row.deletion && has_version row.versions job.token && held) (not current)
      job_kept.live in
      let second = and_parts (is_none row.deletion && has_version row.versions job.token) held first.0 in
      (and_parts (is_none row.deletion) (has_version row.versions job.token) second.0).1

  -- the job's version is there
  pub version_there : version_of row.versions job.token ≡ None → ⊥
  version_there none =
      absurd (let some : true ≡ is_some (version_of row.versions job.token) = sym has_its
      ∙ has_version_is_some row.versions job.token in cc)

  current_there : is_some (current_value row) ≡ true
  current_there =
      held_there row.versions (holder row.labels aws_current)
      (ap (λ b. b || has_current_value row) (sym (has_some row.versions job.token has_its))
      ∙ sound.kept.versions.current)

  -- what a rotator is given at the job's step is there exactly where the step needs it
  pub has_current : (stage : Stage) (value : Option Value) → stage ≡ job.stage
      → value ≡ value_if (needs_current job.stage) (current_value row) → is_some value ≡ needs_current stage
  has_current stage value at is =
      ap is_some is ∙ wanted_there (needs_current job.stage) (current_value row) (λ _. current_there)
      ∙ ap needs_current (sym at)

  pub has_pending : (stage : Stage) (value : Option Value) → stage ≡ job.stage
      → value ≡ value_if (needs_pending job.stage) (value_of row.versions job.token)
      → is_some value ≡ needs_pending stage
  has_pending stage value at is =
      ap is_some is
      ∙ wanted_there (needs_pending job.stage) (value_of row.versions job.token)
      (λ needs. job_kept.valued ∙ sym (pending_from_set job.stage) ∙ needs)
      ∙ ap needs_pending (sym at)
