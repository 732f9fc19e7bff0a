-- Labels in ascending byte order.
use Rattle.std.proofs.Common.{◌≡◌, ℕ, ◌+◌, ◌≤◌, Bool, true, false, not, cond, nat_lt, List, [], ◌∷◌, length, Some, None, refl, arith}
use Rattle.std.specs.List.{position, position_or_len, insert}
use Rattle.std.proofs.lemmas.Grind.{common_steps}
use Rattle.std.proofs.lemmas.Bool.Decides.{nat_tests}
use Rattle.sm_judge_common.specs.LabelsShown.{text_le, inserted}

-- the place of the first label that this one may stand before, or the end
abbrev pub place : List ℕ → List (List ℕ) → ℕ
place label labels = position_or_len (λ other. text_le label other) labels

pub place_within : (label : List ℕ) (labels : List (List ℕ)) → place label labels ≤ length labels
place_within label [] = omega arith
place_within label (t ∷ ts) = by (text_le label t) (place_within label ts)
  where
    by : (b : Bool) → place label ts ≤ length ts → cond (not b) (1 + place label ts) 0 ≤ length (t ∷ ts)
    by true h = omega arith
    by false h = omega arith

pub place_found : (label : List ℕ) (labels : List (List ℕ)) (i : ℕ) → Some i
    ≡ position (λ other. text_le label other) labels → i ≡ position_or_len (λ other. text_le label other) labels
place_found label labels i e = by (nat_lt (place label labels) (length labels)) e
  where
    by : (b : Bool) → Some i ≡ cond b (Some (place label labels)) None → i ≡ place label labels
    by true f = cc
    by false f = absurd (cc)

pub place_at_end : (label : List ℕ) (labels : List (List ℕ)) → None ≡ position (λ other. text_le label other) labels
    → length labels ≡ position_or_len (λ other. text_le label other) labels
place_at_end label labels e = by (nat_lt (place label labels) (length labels)) refl e
  where
    by : (b : Bool) → b ≡ nat_lt (place label labels) (length labels) → None ≡ cond b (Some (place label labels)) None
        → length labels ≡ place label labels
    by true f g = absurd (cc)
    by false f g = grind (arith, nat_tests, place_within label labels, f)

pub inserted_at : (label : List ℕ) (labels : List (List ℕ))
    → insert labels (position_or_len (λ other. text_le label other) labels) label ≡ inserted label labels
inserted_at label [] = refl
inserted_at label (t ∷ ts) = by (text_le label t) (inserted_at label ts)
  where
    by : (b : Bool) → insert ts (place label ts) label ≡ inserted label ts
        → insert (t ∷ ts) (cond (not b) (1 + place label ts) 0) label ≡ cond b (label ∷ t ∷ ts) (t ∷ inserted label ts)
    by true h = refl
    by false h = grind (arith, common_steps, h)
