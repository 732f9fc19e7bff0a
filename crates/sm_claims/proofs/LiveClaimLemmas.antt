-- Claims that stand for those of a history.
use Rattle.std.proofs.Common.{◌≡◌, ◌≤◌, ℕ, ◌+◌, Bool, true, false, cond, not, ◌&&◌, ◌||◌, List, [], ◌∷◌, ◌++◌, Option, Some, None, refl, sym, ap, ◌∙◌, subst, arith}
use Rattle.std.specs.Prelude.{nat_le}
use Rattle.std.specs.List.{filter, list_any}
use Rattle.std.proofs.Math.Bool.{or-false, or_assoc}
use Rattle.std.proofs.lemmas.Bool.{and_from, and_parts, leb-true, lt-ltb, ltb-false, ltb-true}
use Rattle.sm_base.specs.Texts.{same_text}
use Rattle.sm_base.specs.declared.moment.Moment.{Moment}
use Rattle.sm_model.specs.declared.entry.Mark.{Mark}
use Rattle.sm_model.specs.declared.rows.Job.{Job}
use Rattle.sm_model.specs.declared.rows.SecretRow.{SecretRow}
use Rattle.sm_versions.specs.Settle.{is_live}
use Rattle.sm_versions.proofs.TextLemmas.{same_text_decides}
use Rattle.sm_rotation.specs.Step.{is_at}
use Rattle.sm_rotation.proofs.StepLemmas.{is_at_tells}
use Rattle.sm_claims.specs.declared.claims.Claim.{Claim}
use Rattle.sm_claims.specs.declared.claims.TheConstants.{CLAIM_SECONDS}
use Rattle.sm_claims.specs.Claims.{is_claim_of, is_claimed, is_open}
use Rattle.sm_claims.specs.Ready.{first_ready, is_ready, is_ready_if}
use Rattle.sm_claims.specs.LiveClaims.{claim_mark, claim_marks, is_same_step, same_at, live_claims_with, still_counts}

-- what is asked of the claims is asked of their marks
pub any_marks : (claims : List Claim) (arn : List ℕ) (job : Job) (moment : Moment)
    → is_claimed (claim_marks claims) arn job moment
    ≡ list_any (λ (claim : Claim). is_claim_of (claim_mark claim) arn job moment) claims
any_marks [] arn job moment = refl
any_marks (claim ∷ claims) arn job moment =
    ap (λ b. is_claim_of (claim_mark claim) arn job moment || b) (any_marks claims arn job moment)

-- Where two histories say the same of claims at a moment, the same secret is the first that is ready.
module _ (history other : List (ℕ × Mark)) (moment : Moment)
    (alike : (arn : List ℕ) (job : Job) → is_claimed history arn job moment ≡ is_claimed other arn job moment) where
  same_job : (row : SecretRow) (job : Option Job)
      → is_ready_if history moment row job ≡ is_ready_if other moment row job
  same_job row None = refl
  same_job row (Some job) =
      ap (λ b. nat_le job.retry_at.0 moment.0 && is_live row job && not b) (alike row.arn job)

  pub ready_alike : (rows : List SecretRow) → first_ready history moment rows ≡ first_ready other moment rows
  ready_alike [] = refl
  ready_alike (row ∷ rows) =
      ap (λ b. cond b (Some row) (first_ready history moment rows)) (same_job row row.job)
      ∙ ap (λ found. cond (is_ready other moment row) (Some row) found) (ready_alike rows)

-- the claims of a history with one mark more
pub claimed_more : (history : List (ℕ × Mark)) (seat : ℕ) (mark : Mark) (arn : List ℕ) (job : Job) (moment : Moment)
    → is_claimed (history ++ (seat, mark) ∷ []) arn job moment
    ≡ (is_claimed history arn job moment || is_claim_of mark arn job moment)
claimed_more [] seat mark arn job moment = or-false (is_claim_of mark arn job moment)
claimed_more (x ∷ history) seat mark arn job moment =
    ap (λ b. is_claim_of x.1 arn job moment || b) (claimed_more history seat mark arn job moment)
    ∙ sym (or_assoc (is_claim_of x.1 arn job moment) (is_claimed history arn job moment)
    (is_claim_of mark arn job moment))

-- one that is covered by another says nothing more
covered_or : (a b c : Bool) → (a ≡ true → c ≡ true) → (b || c) ≡ (a || b || c)
covered_or false b c h = refl
covered_or true true c h = refl
covered_or true false c h = h refl

-- of claims of the same step, at the job of a secret
module _ (claim newer : Claim) (arn : List ℕ) (job : Job) (same : is_same_step claim newer ≡ true) where
  parts : (same_text claim.arn newer.arn ≡ true) × (same_at claim.at newer.at ≡ true)
  parts = and_parts (same_text claim.arn newer.arn) (same_at claim.at newer.at) same

  same_secret : same_text claim.arn arn ≡ true → same_text newer.arn arn ≡ true
  same_secret is =
      subst (λ (a : List ℕ). same_text a arn ≡ true) ((same_text_decides claim.arn newer.arn).0 parts.0) is

  same_step : is_at job claim.at ≡ true → is_at job newer.at ≡ true
  same_step is =
      subst (λ at. same_at at newer.at ≡ true)
      (sym ((is_at_tells job claim.at (is_at job claim.at) refl).0 is)) parts.1

module _ (from : Moment) (newer : Claim) (arn : List ℕ) (job : Job) (moment : Moment) (after : from.0 ≤ moment.0) where
  abbrev here : Claim → Bool
  here claim = is_claim_of (claim_mark claim) arn job moment

  -- a claim that has ended before the moment is not still then
  ended : (claim : Claim) → is_open claim.made from ≡ false → is_open claim.made moment ≡ true → ⊥
  ended claim past still =
      let end = ltb-false from.0 (claim.made.0 + CLAIM_SECONDS) past in
      let before = ltb-true moment.0 (claim.made.0 + CLAIM_SECONDS) still in
      omega (arith, end, before, after)

  open_longer : (claim : Claim) → nat_le claim.made.0 newer.made.0 ≡ true → is_open claim.made moment ≡ true
      → is_open newer.made moment ≡ true
  open_longer claim later still =
      let le = leb-true claim.made.0 newer.made.0 later in
      let before = ltb-true moment.0 (claim.made.0 + CLAIM_SECONDS) still in
      lt-ltb moment.0 (newer.made.0 + CLAIM_SECONDS) (omega (arith, le, before))

  -- where a claim is dropped and was one of the job's step, so is the newer one
  covered : (claim : Claim) → still_counts newer from claim ≡ false → here claim ≡ true → here newer ≡ true
  covered claim dropped is =
      let back = and_parts (is_open claim.made moment && is_at job claim.at) (same_text claim.arn arn) is in
      let front = and_parts (is_open claim.made moment) (is_at job claim.at) back.0 in
      by (is_open claim.made from) (is_same_step claim newer) (nat_le claim.made.0 newer.made.0) refl refl refl dropped
      front.0 front.1 back.1
    where
      by : (still same earlier : Bool) → still ≡ is_open claim.made from → same ≡ is_same_step claim newer
          → earlier ≡ nat_le claim.made.0 newer.made.0 → (still && not (same && earlier)) ≡ false
          → is_open claim.made moment ≡ true → is_at job claim.at ≡ true → same_text claim.arn arn ≡ true
          → here newer ≡ true
      by false same earlier o s e dropped still at its = absurd (ended claim (sym o) still)
      by true true true o s e dropped still at its =
          and_from (is_open newer.made moment && is_at job newer.at) (same_text newer.arn arn)
          (and_from (is_open newer.made moment) (is_at job newer.at) (open_longer claim (sym e) still)
          (same_step claim newer arn job (sym s) at))
          (same_secret claim newer arn job (sym s) its)
      by true true false o s e dropped still at its = absurd (let h : true ≡ false = dropped in cc)
      by true false earlier o s e dropped still at its = absurd (let h : true ≡ false = dropped in cc)

  -- the claims that stand once one was made say what those before and the new one say
  pub stands_with : (claims : List Claim)
      → is_claimed (claim_marks (live_claims_with claims newer from)) arn job moment
      ≡ (is_claimed (claim_marks claims) arn job moment || here newer)
  stands_with [] = or-false (here newer)
  stands_with (claim ∷ claims) = by (still_counts newer from claim) refl (stands_with claims)
    where
      by : (b : Bool) → b ≡ still_counts newer from claim
          → is_claimed (claim_marks (filter (still_counts newer from) claims ++ newer ∷ [])) arn job moment
          ≡ (is_claimed (claim_marks claims) arn job moment || here newer)
          → is_claimed (claim_marks (cond b (claim ∷ filter (still_counts newer from) claims)
          (filter (still_counts newer from) claims) ++ newer ∷ [])) arn job moment
          ≡ (here claim || is_claimed (claim_marks claims) arn job moment || here newer)
      by true is rest =
          ap (λ b. here claim || b) rest
          ∙ sym (or_assoc (here claim) (is_claimed (claim_marks claims) arn job moment) (here newer))
      by false is rest =
          rest ∙ covered_or (here claim) (is_claimed (claim_marks claims) arn job moment) (here newer)
          (covered claim (sym is))
