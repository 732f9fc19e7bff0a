-- Claims that stand for those of a history, which is then not walked.
use Rattle.std.specs.Prelude.{ℕ, Bool, ◌&&◌, not, nat_eq, nat_le, List, [], ◌∷◌, ◌++◌, filter}
use Rattle.sm_base.specs.Texts.{same_text}
use Rattle.sm_base.specs.declared.moment.Moment.{Moment}
use Rattle.sm_model.specs.declared.entry.At.{At}
use Rattle.sm_model.specs.declared.entry.Mark.{Mark}
use Rattle.sm_model.specs.declared.entry.Mark.TheVariants as mark
use Rattle.sm_rotation.specs.Step.{same_stage}
use Rattle.sm_claims.specs.Claims.{is_open}
use Rattle.sm_claims.specs.declared.claims.Claim.{Claim}

-- the mark of a history that the claim is
abbrev pub claim_mark : Claim → Mark
claim_mark claim = mark.Claim claim.arn claim.at claim.made

-- the claims as a history of them alone, whoever made them
abbrev pub claim_marks : List Claim → List (ℕ × Mark)
claim_marks [] = []
claim_marks (claim ∷ claims) = (0, claim_mark claim) ∷ claim_marks claims

-- both are the same step of a rotation
abbrev pub same_at : At → At → Bool
same_at at other =
    same_text at.token other.token && same_stage at.stage other.stage && nat_eq at.attempt other.attempt

-- both are claims of the same step of the rotation of the same secret
abbrev pub is_same_step : Claim → Claim → Bool
is_same_step claim other = same_text claim.arn other.arn && same_at claim.at other.at

-- A claim still counts beside a newer one, where no look is of an earlier moment than this: it has not ended there, and
-- the newer one is of another step, or earlier.
abbrev pub still_counts : Claim → Moment → Claim → Bool
still_counts newer from claim =
    is_open claim.made from && not (is_same_step claim newer && nat_le claim.made.0 newer.made.0)

-- the claims that stand once one was made
abbrev pub live_claims_with : List Claim → Claim → Moment → List Claim
live_claims_with claims newer from = filter (still_counts newer from) claims ++ newer ∷ []
