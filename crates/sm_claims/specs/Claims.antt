-- Claims: that somebody has taken up a step of a rotation. A claim ends by itself after some seconds, so that a step
-- whose claimant is gone can be taken up again.
-- AWS Secrets Manager User Guide: "Lambda rotation functions".
use Rattle.std.specs.Prelude.{ℕ, ◌+◌, Bool, false, ◌&&◌, nat_lt, List}
use Rattle.std.specs.List.{list_any}
use Rattle.sm_base.specs.declared.moment.Moment.{Moment}
use Rattle.sm_model.specs.declared.entry.At.{At}
use Rattle.sm_model.specs.declared.entry.Mark.{Mark}
use Rattle.sm_model.specs.declared.entry.Mark.TheVariants.{Entry, Claim, Fault}
use Rattle.sm_model.specs.declared.rows.Job.{Job}
use Rattle.sm_base.specs.Texts.{same_text}
use Rattle.sm_rotation.specs.Step.{is_at}
use Rattle.sm_claims.specs.declared.claims.TheConstants.{CLAIM_SECONDS}

-- a claim that was made at the first moment has not ended at the second
abbrev pub is_open : Moment → Moment → Bool
is_open made moment = nat_lt moment.0 (made.0 + CLAIM_SECONDS)

-- the mark is a claim of the step that the job of the secret with this ARN is at, and has not ended
abbrev pub is_claim_of : Mark → List ℕ → Job → Moment → Bool
is_claim_of (Claim claimed at made) arn job moment = is_open made moment && is_at job at && same_text claimed arn
is_claim_of (Entry entry) arn job moment = false
is_claim_of Fault arn job moment = false

-- the history has a claim of that step which has not ended
abbrev pub is_claimed : List (ℕ × Mark) → List ℕ → Job → Moment → Bool
is_claimed history arn job moment = list_any (λ (x : ℕ × Mark). is_claim_of x.1 arn job moment) history
