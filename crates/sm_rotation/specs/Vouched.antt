-- That a version which a rotation made current was accepted by its test.
-- AWS Secrets Manager User Guide: "Lambda rotation functions" (testSecret, finishSecret).
use Rattle.std.specs.Prelude.{◌≡◌, ℕ, Bool, true, false, ◌&&◌, List, [], ◌∷◌, Option, Some, None, IsTrue}
use Rattle.sm_model.specs.Bounds.{fits}
use Rattle.sm_model.specs.declared.value.Value.{Value}
use Rattle.sm_model.specs.declared.entry.At.{At}
use Rattle.sm_model.specs.declared.entry.Answer.{Answer}
use Rattle.sm_model.specs.declared.entry.Answer.TheVariants.{Yes}
use Rattle.sm_model.specs.declared.rows.VersionRow.{VersionRow}
use Rattle.sm_model.specs.declared.rows.Job.{Job}
use Rattle.sm_model.specs.declared.rows.Stage.TheVariants.{Test}
use Rattle.sm_model.specs.declared.rows.SecretRow.{SecretRow}
use Rattle.sm_versions.specs.Versions.{value_of}

-- which answers a rotator may give to a step of a secret's rotation, by the current and the pending value
abbrev pub Replies : Type 0
Replies = List ℕ → At → Option Value → Option Value → Answer → Bool

-- there is a value, and the rotator may answer yes to the test of it at this attempt
abbrev pub is_accepted : Replies → List ℕ → List ℕ → Option Value → ℕ → Bool
is_accepted replies arn token None attempt = false
is_accepted replies arn token (Some value) attempt =
    replies arn (record { token = token; stage = Test; attempt = attempt }) None (Some value) Yes

-- the version was accepted at the attempt that it remembers
abbrev pub is_vouched : Replies → List ℕ → VersionRow → Bool
is_vouched replies arn version = fits (is_accepted replies arn version.id version.value) version.rotated

abbrev pub each_vouched : Replies → List ℕ → List VersionRow → Bool
each_vouched replies arn [] = true
each_vouched replies arn (version ∷ versions) = is_vouched replies arn version && each_vouched replies arn versions

-- the version of the job's token was accepted at the attempt that the job remembers
abbrev pub is_vouched_job : Replies → SecretRow → Job → Bool
is_vouched_job replies row job =
    fits (is_accepted replies row.arn job.token (value_of row.versions job.token)) job.tested

-- each attempt that is remembered in the secret is one at which the test accepted
pub record RowVouched (replies : Replies) (row : SecretRow) : Type 0 where
  pub versions : IsTrue (each_vouched replies row.arn row.versions)
  pub job : IsTrue (fits (is_vouched_job replies row) row.job)

-- if the answer accepts a test, it is one that the rotator may give to the test of the version's value
abbrev pub AcceptsOnly : Replies → SecretRow → Answer → Job → Type 0
AcceptsOnly replies row answer job =
    job.stage ≡ Test → answer ≡ Yes
    → is_accepted replies row.arn job.token (value_of row.versions job.token) job.attempt ≡ true
