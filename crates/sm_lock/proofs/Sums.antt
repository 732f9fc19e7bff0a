-- Sums over lists that change at one place, and counts of numbers.
use Rattle.std.proofs.Common.{◌≡◌, ℕ, zero, suc, ◌+◌, ◌<◌, ◌≤◌, ◌≢◌, List, [], ◌∷◌, ◌++◌, length, set, sym, ap, ◌∙◌, refl, cond, eqb, eq-eqb, ne_eqb, ltb, lt-ltb, le-ltb, arith}
use mathlib.Core.Logic.{dite}
use native.Mathlib.Decide.{ℕ_discrete, dec_lt}
use mathlib.Core.Option.{some, some-injective, some-ne-none}
use lib.ListN.{get_elem?}
use Rattle.sm_lock.specs.Rule.{total, within}
use Rattle.sm_lock.specs.Story.{times}

module _ {A : Type 0} (g : A → ℕ) where
  pub total-append : (l m : List A) → total g (l ++ m) ≡ total g l + total g m
  total-append [] m = omega arith
  total-append (x ∷ xs) m = omega (arith, total-append xs m)

  pub total-set : (l : List A) (j : ℕ) (v w : A) → get_elem? l j ≡ some v → total g (set l j w) + g v ≡ total g l + g w
  total-set [] j v w e = absurd (some-ne-none v (sym e))
  total-set (x ∷ xs) zero v w e = omega (arith, ap g (some-injective x v e))
  total-set (x ∷ xs) (suc j) v w e = omega (arith, total-set xs j v w e)

  pub term_le : (l : List A) (j : ℕ) (v : A) → get_elem? l j ≡ some v → g v ≤ total g l
  term_le [] j v e = absurd (some-ne-none v (sym e))
  term_le (x ∷ xs) zero v e = omega (arith, ap g (some-injective x v e))
  term_le (x ∷ xs) (suc j) v e = omega (arith, term_le xs j v e)

  pub terms_le : (l : List A) (j k : ℕ) (v u : A) → k ≢ j → get_elem? l j ≡ some v → get_elem? l k ≡ some u
      → g v + g u ≤ total g l
  terms_le [] j k v u n e d = absurd (some-ne-none v (sym e))
  terms_le (x ∷ xs) zero zero v u n e d = absurd (n refl)
  terms_le (x ∷ xs) zero (suc k) v u n e d = omega (arith, ap g (some-injective x v e), term_le xs k u d)
  terms_le (x ∷ xs) (suc j) zero v u n e d = omega (arith, ap g (some-injective x u d), term_le xs j v e)
  terms_le (x ∷ xs) (suc j) (suc k) v u n e d = omega (arith, terms_le xs j k v u (λ h. n (ap suc h)) e d)

  -- a sum above 0 has a term above 0
  pub some_term : (l : List A) → 0 < total g l → (j : ℕ) × (v : A) × (get_elem? l j ≡ some v) × (0 < g v)
  some_term [] h = absurd (omega arith)
  some_term (x ∷ xs) h = dite (ℕ_discrete (g x) 0)
      (λ none. let t = some_term xs (omega arith) in (suc t.0, t.1, t.2, t.3))
      (λ positive. (0, x, refl, omega arith))

pub total_le : {A : Type 0} (f g : A → ℕ) (l : List A) → ((j : ℕ) (v : A) → get_elem? l j ≡ some v → f v ≤ g v)
    → total f l ≤ total g l
total_le f g [] h = omega arith
total_le f g (x ∷ xs) h = let here = h 0 x refl in omega (arith, total_le f g xs (λ j v e. h (suc j) v e))

pub if_same : (a b : ℕ) → a ≡ b → ◌≡◌ {A = ℕ} (cond (eqb a b) 1 0) 1
if_same a b e = ap (λ t. cond t 1 0) (eq-eqb a b e)

pub if_other : (a b : ℕ) → a ≢ b → ◌≡◌ {A = ℕ} (cond (eqb a b) 1 0) 0
if_other a b n = ap (λ t. cond t 1 0) (ne_eqb a b n)

pub times-append : (n : ℕ) (l m : List ℕ) → times n (l ++ m) ≡ times n l + times n m
times-append n [] m = omega arith
times-append n (k ∷ ks) m = omega (arith, times-append n ks m)

pub times-length : (n : ℕ) (l : List ℕ) → times n l ≤ length l
times-length n [] = omega arith
times-length n (k ∷ ks) = dite (ℕ_discrete n k)
    (λ same. omega (arith, times-length n ks, if_same n k same))
    (λ other. omega (arith, times-length n ks, if_other n k other))

pub times-here : (n : ℕ) → times n (n ∷ []) ≡ 1
times-here n = omega (arith, if_same n n refl)

pub times-else : (n k : ℕ) → n ≢ k → times n (k ∷ []) ≡ 0
times-else n k other = omega (arith, if_other n k other)

pub within-in : (low high n : ℕ) → low ≤ n → n < high → within low high n ≡ 1
within-in low high n a b = ap (λ t. cond t 0 (cond (ltb n high) 1 0)) (le-ltb n low a)
    ∙ ap (λ t. cond t 1 0) (lt-ltb n high b)

pub within-before : (low high n : ℕ) → n < low → within low high n ≡ 0
within-before low high n a = ap (λ t. cond t 0 (cond (ltb n high) 1 0)) (lt-ltb n low a)

pub within-after : (low high n : ℕ) → high ≤ n → within low high n ≡ 0
within-after low high n b = dite (dec_lt n low) (λ a. within-before low high n a)
    (λ a. ap (λ t. cond t 0 (cond (ltb n high) 1 0)) (le-ltb n low (omega arith))
    ∙ ap (λ t. cond t 1 0) (le-ltb n high b))

pub within_le : (low high n : ℕ) → within low high n ≤ 1
within_le low high n = dite (dec_lt n low) (λ a. omega (arith, within-before low high n a))
    (λ a. dite (dec_lt n high) (λ b. omega (arith, within-in low high n (omega arith) b))
    (λ b. omega (arith, within-after low high n (omega arith))))

pub within-is : (low high n : ℕ) → 0 < within low high n → (low ≤ n) × (n < high)
within-is low high n h = dite (dec_lt n low) (λ a. absurd (omega (arith, within-before low high n a)))
    (λ a. dite (dec_lt n high) (λ b. (omega arith, b))
    (λ b. absurd (omega (arith, within-after low high n (omega arith)))))

-- one more at the end
pub within-more : (low high n : ℕ) → low ≤ high → within low (high + 1) n ≡ within low high n + cond (eqb n high) 1 0
within-more low high n h = dite (ℕ_discrete n high)
    (λ same. omega (
      arith,
      if_same n high same,
      within-after low high n (omega arith),
      within-in low (high + 1) n
          (omega arith) (omega arith),
    ))
    (λ other. dite (dec_lt n low)
    (λ a. omega (arith, if_other n high other, within-before low high n a, within-before low (high + 1) n a))
    (λ a. dite (dec_lt n high)
    (λ b. omega (
      arith,
      if_other n high other,
      within-in low high n (omega arith) b,
      within-in low (high + 1) n
          (omega arith) (omega arith),
    ))
    (λ b. omega (
      arith,
      if_other n high other,
      within-after low high n (omega arith),
      within-after low (high + 1) n
          (omega arith),
    ))))

-- one less at the front
pub within-less : (low high n : ℕ) → low < high → within (low + 1) high n + cond (eqb n low) 1 0 ≡ within low high n
within-less low high n h = dite (ℕ_discrete n low)
    (λ same. omega (
      arith,
      if_same n low same,
      within-before (low + 1) high n (omega arith),
      within-in low high n
          (omega arith) (omega arith),
    ))
    (λ other. dite (dec_lt n low)
    (λ a. omega (arith, if_other n low other, within-before low high n a, within-before (low + 1) high n (omega arith)))
    (λ a. dite (dec_lt n high)
    (λ b. omega (
      arith,
      if_other n low other,
      within-in low high n (omega arith) b,
      within-in (low + 1) high n
          (omega arith) b,
    ))
    (λ b. omega (
      arith,
      if_other n low other,
      within-after low high n (omega arith),
      within-after (low + 1) high n
          (omega arith),
    ))))
