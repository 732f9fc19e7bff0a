-- What is kept of the marks and the claims goes on with the history.
use Rattle.std.proofs.Common.{◌≡◌, ◌≤◌, ℕ, ◌+◌, ◌||◌, List, [], ◌∷◌, ◌++◌, length, length-append, sym, ap, ◌∙◌, arith}
use Rattle.std.proofs.Math.Bool.{or-false}
use Rattle.sm_base.specs.declared.moment.Moment.{Moment}
use Rattle.sm_model.specs.declared.entry.Entry.{Entry as entries}
use Rattle.sm_model.specs.declared.entry.Mark.{Mark}
use Rattle.sm_model.specs.declared.entry.Mark.TheVariants.{Entry, Fault}
use Rattle.sm_claims.specs.declared.claims.Claim.{Claim}
use Rattle.sm_claims.specs.Claims.{is_claim_of, is_claimed}
use Rattle.sm_claims.specs.LiveClaims.{claim_mark, live_claims_with}
use Rattle.sm_claims.proofs.LiveClaimLemmas.{claimed_more, stands_with}
use Rattle.sm_account.specs.Claims.{ClaimsStand}

-- one mark more is counted
pub counted_more : (history : List (ℕ × Mark)) (seat : ℕ) (mark : Mark) (count : ℕ) → count ≡ length history
    → count + 1 ≡ length (history ++ (seat, mark) ∷ [])
counted_more history seat mark count is = omega (arith, is, length-append history ((seat, mark) ∷ []))

module _ (history : List (ℕ × Mark)) (claims : List Claim) (from : Moment) (seat : ℕ)
    (stand : ClaimsStand history claims from) where
  -- an entry claims nothing, and nobody asks of a moment before its own any more
  pub stand_entered : (entry : entries) (last : Moment) → from.0 ≤ last.0
      → ClaimsStand (history ++ (seat, Entry entry) ∷ []) claims last
  stand_entered entry last later = λ arn job moment after.
      claimed_more history seat (Entry entry) arn job moment ∙ or-false (is_claimed history arn job moment)
      ∙ stand arn job moment (omega (arith, later, after))

  -- a fault claims nothing
  pub stand_failed : ClaimsStand (history ++ (seat, Fault) ∷ []) claims from
  stand_failed = λ arn job moment after.
      claimed_more history seat Fault arn job moment ∙ or-false (is_claimed history arn job moment)
      ∙ stand arn job moment after

  pub stand_claimed : (claim : Claim)
      → ClaimsStand (history ++ (seat, claim_mark claim) ∷ []) (live_claims_with claims claim from) from
  stand_claimed claim = λ arn job moment after.
      claimed_more history seat (claim_mark claim) arn job moment
      ∙ ap (λ b. b || is_claim_of (claim_mark claim) arn job moment) (stand arn job moment after)
      ∙ sym (stands_with from claim arn job moment after claims)
