-- The claims of a history: each is of the first step that was ready when it was made.
-- AWS Secrets Manager User Guide: "Lambda rotation functions".
use Rattle.std.specs.Prelude.{◌≡◌, ◌≤◌, ⊤, ℕ, List, [], ◌∷◌, ◌++◌, Option, Some, IsSomeAnd, option_map}
use Rattle.sm_base.specs.declared.moment.Moment.{Moment}
use Rattle.sm_model.specs.declared.entry.At.{At}
use Rattle.sm_model.specs.declared.entry.Mark.{Mark}
use Rattle.sm_model.specs.declared.entry.Mark.TheVariants.{Entry, Claim, Fault}
use Rattle.sm_model.specs.declared.rows.Job.{Job}
use Rattle.sm_model.specs.declared.rows.SecretRow.{SecretRow}
use Rattle.sm_claims.specs.Claims.{is_claimed}
use Rattle.sm_claims.specs.Ready.{first_ready}
use Rattle.sm_claims.specs.LiveClaims.{claim_marks}
use Rattle.sm_claims.specs.declared.claims.Claim.{Claim as claims}
use Rattle.sm_core.specs.Histories.{replay}
use Rattle.sm_rotation.specs.Step.{at_of}
use Rattle.sm_account.specs.History.{entries_in}
use Rattle.sm_account.specs.States.{Base}

-- the first secret, in order of creation, of whose rotation a step is ready at the history and the moment: a step of a
-- live job whose next attempt may be made, and of which no claim is open
abbrev pub ready_at : Base → List (ℕ × Mark) → Moment → Option SecretRow
ready_at base history moment = first_ready history moment (replay base.rows (entries_in history)).secrets

-- the secret has this ARN, and its job is at this step
abbrev pub IsAtStep : List ℕ → At → SecretRow → Type 0
IsAtStep arn at row = (row.arn ≡ arn) × (option_map at_of row.job ≡ Some at)

-- a claim behind these marks is of the step that was ready at its moment
abbrev pub ClaimsReadyStep : Base → List (ℕ × Mark) → Mark → Type 0
ClaimsReadyStep base before (Claim arn at moment) = IsSomeAnd (ready_at base before moment) (IsAtStep arn at)
ClaimsReadyStep base before (Entry entry) = ⊤
ClaimsReadyStep base before Fault = ⊤

abbrev pub ClaimsReadyBehind : Base → List (ℕ × Mark) → List (ℕ × Mark) → Type 0
ClaimsReadyBehind base before [] = ⊤
ClaimsReadyBehind base before (x ∷ xs) = ClaimsReadyStep base before x.1 × ClaimsReadyBehind base (before ++ x ∷ []) xs

-- each claim of the history is of the step that was ready before it, at its moment
abbrev pub ClaimsReady : Base → List (ℕ × Mark) → Type 0
ClaimsReady base history = ClaimsReadyBehind base [] history

-- from the moment on, the history has a claim of a step that has not ended exactly where one of these claims is such
abbrev pub ClaimsStand : List (ℕ × Mark) → List claims → Moment → Type 0
ClaimsStand history live from = (arn : List ℕ) (job : Job) (moment : Moment) → from.0 ≤ moment.0
    → is_claimed history arn job moment ≡ is_claimed (claim_marks live) arn job moment
