-- What holds of a secret between any two changes.
-- AWS Secrets Manager User Guide: "Secret versions" (each label is on one version at a time; a secret always has a
-- version labelled AWSCURRENT).
use Rattle.std.specs.Prelude.{◌≡◌, ℕ, ◌≤◌, Bool, true, false, not, ◌&&◌, ◌||◌, List, [], ◌∷◌, Option, Some, None, is_some, is_none, IsTrue, IfSome}
use Rattle.sm_base.specs.declared.limits.TheConstants.{ATTEMPTS_LIMIT}
use Rattle.sm_model.specs.declared.rows.Pair.{Pair}
use Rattle.sm_model.specs.declared.rows.VersionRow.{VersionRow}
use Rattle.sm_model.specs.declared.rows.Job.{Job}
use Rattle.sm_model.specs.declared.rows.Stage.{Stage}
use Rattle.sm_model.specs.declared.rows.Stage.TheVariants.{Create, Set, Test, Finish}
use Rattle.sm_model.specs.declared.rows.SecretRow.{SecretRow}
use Rattle.sm_versions.specs.Texts.{is_among}
use Rattle.sm_model.specs.Labels.{aws_current, holder}
use Rattle.sm_versions.specs.Versions.{has_value}
use Rattle.sm_model.specs.Versions.{has_version}
use Rattle.sm_versions.specs.Settle.{IsLive, is_create}
use Rattle.sm_versions.specs.Serials.{rises, version_serials}

-- each label stands in at most one pair
abbrev pub labels_once : List Pair → Bool
labels_once [] = true
labels_once (p ∷ ps) = is_none (holder ps p.label) && labels_once ps

-- each pair names a version
abbrev pub pairs_named : List VersionRow → List Pair → Bool
pairs_named versions [] = true
pairs_named versions (p ∷ ps) = has_version versions p.id && pairs_named versions ps

-- no id stands twice
abbrev pub ids_once : List VersionRow → Bool
ids_once [] = true
ids_once (v ∷ vs) = not (has_version vs v.id) && ids_once vs

abbrev pub has_none : List VersionRow → Bool
has_none [] = true
has_none (v ∷ vs) = false

-- the holder is there, and its version has a value
abbrev pub holder_has_value : List VersionRow → Option (List ℕ) → Bool
holder_has_value versions None = false
holder_has_value versions (Some id) = has_value versions id

-- AWSCURRENT has a holder, and that holder has a value
abbrev pub has_current_value : SecretRow → Bool
has_current_value row = holder_has_value row.versions (holder row.labels aws_current)

-- the versions of a secret and the labels on them
pub record VersionsKept (row : SecretRow) : Type 0 where
  pub once : IsTrue (labels_once row.labels)
  pub named : IsTrue (pairs_named row.versions row.labels)
  pub ids : IsTrue (ids_once row.versions)
  pub serials : IsTrue (rises 0 (version_serials row.versions) row.next_version)
  pub current : IsTrue (has_none row.versions || has_current_value row)

abbrev pub is_finish : Stage → Bool
is_finish Create = false
is_finish Set = false
is_finish Test = false
is_finish Finish = true

-- a job, whether it is live or not: it has been tested exactly at Finish, and past Create its version has a value
pub record JobFits (row : SecretRow) (job : Job) : Type 0 where
  pub first : 1 ≤ job.attempt
  pub last : job.attempt ≤ ATTEMPTS_LIMIT
  pub tested : is_some job.tested ≡ is_finish job.stage
  pub valued :
      IsTrue (is_create job.stage || not (has_version row.versions job.token) || has_value row.versions job.token)

-- a live job: its version has a value exactly past Create
pub record JobKept (row : SecretRow) (job : Job) : Type 0 where
  pub live : IsLive row job
  pub first : 1 ≤ job.attempt
  pub last : job.attempt ≤ ATTEMPTS_LIMIT
  pub tested : is_some job.tested ≡ is_finish job.stage
  pub valued : has_value row.versions job.token ≡ not (is_create job.stage)

-- what each step of a change keeps
pub record KeptUnsettled (row : SecretRow) : Type 0 where
  pub versions : VersionsKept row
  pub job : IfSome row.job (JobFits row)

-- what holds of a secret between any two changes
pub record CurrentKept (row : SecretRow) : Type 0 where
  pub versions : VersionsKept row
  pub job : IfSome row.job (JobKept row)

-- after a put with these labels AWSCURRENT has a holder
abbrev pub will_have_current : SecretRow → List (List ℕ) → Bool
will_have_current row labels = is_some (holder row.labels aws_current) || is_among labels aws_current
