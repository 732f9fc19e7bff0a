-- What was added to a list of entries, by what is known of its passes.
use Rattle.std.proofs.Common.{◌≡◌, ℕ, zero, suc, ◌+◌, ◌<◌, List, [], ◌∷◌, ◌++◌, length, drop, map, get_or, sym, ap, ◌∙◌, refl, arith, cond, eq-eqb, ne_eqb, All, append-nil, ◌⊎◌, ◌≢◌, inl, inr, ⊎_elim, Result, Ok, Err, OnOk, OnErr, ◌≤◌, length-drop}
use mathlib.Core.Logic.{dite}
use native.Mathlib.Decide.{ℕ_discrete}
use Rattle.sm_lock.proofs.Stories.{grows-length}
use Rattle.std.proofs.lemmas.List.Elements.{All-head, All-tail}
use Rattle.std.specs.List.{Contains}
use Rattle.sm_lock.specs.Story.{made_by, Grows, entries_of}
use Rattle.sm_lock.proofs.Sums.{if_same}
use Rattle.sm_lock.proofs.Passes.{drop-built}
use Rattle.sm_lock_tests.specs.Sums.{sum_of}

pub sum-push : (xs : List (ℕ × ℕ)) (x : ℕ × ℕ) → sum_of (xs ++ x ∷ []) ≡ sum_of xs + x.1
sum-push [] x = omega arith
sum-push (y ∷ ys) x = omega (arith, sum-push ys x)

-- a pass with this number
at_number : {P : Type 0} (f : P → ℕ) (Q : P → Type 0) (ps : List P) (n k : ℕ) → k < length (map f ps)
    → get_or (map f ps) k n ≡ n → All Q ps → (p : P) × (f p ≡ n) × Q p
at_number f Q [] n k lt e h = absurd (omega arith)
at_number f Q (p ∷ ps) n zero lt e h = (p, e, All-head Q p ps h)
at_number f Q (p ∷ ps) n (suc k) lt e h = at_number f Q ps n k (omega arith) e (All-tail Q p ps h)

module _ {P E : Type 0} (f : P → ℕ) (s : P → List (ℕ × E)) (built whole : List (ℕ × E)) where
  -- where each pass has seen what was built alone, nothing was added
  nothing_else : (ps : List P) (rest : List (ℕ × E)) → whole ≡ built ++ rest
      → All (λ p. Grows (f p ∷ []) (s p) whole) ps → All (λ p. s p ≡ built) ps
      → All (λ x. Contains (map f ps) x.0) rest → rest ≡ []
  nothing_else ps [] begins known still numbers = refl
  nothing_else ps (x ∷ xs) begins known still numbers =
      let here = numbers 0 x (omega arith) in
      let both : All (λ p. Grows (f p ∷ []) (s p) whole × (s p ≡ built)) ps = λ k d h. (known k d h, still k d h) in
      let p = at_number f (λ p. Grows (f p ∷ []) (s p) whole × (s p ≡ built)) ps x.0 here.0 here.1 here.2 both in
      let more = p.2.0.0 in
      let same : more ≡ x ∷ xs =
      sym (drop-built built more whole (p.2.0.1 ∙ ap (λ (l : List (ℕ × E)). l ++ more) p.2.1))
      ∙ drop-built built (x ∷ xs) whole begins in
      absurd (omega (arith, p.2.0.2, ap (made_by (f p.0 ∷ [])) same, if_same x.0 (f p.0) (sym p.1)))

  pub nothing_added : (ps : List P) → whole ≡ built ++ drop (length built) whole
      → All (λ p. Grows (f p ∷ []) (s p) whole) ps → All (λ p. s p ≡ built) ps
      → All (λ x. Contains (map f ps) x.0) (drop (length built) whole) → whole ≡ built
  nothing_added ps begins known still numbers = begins
      ∙ ap (λ (l : List (ℕ × E)). built ++ l) (nothing_else ps (drop (length built) whole) begins known still numbers)
      ∙ append-nil built

-- what an answer says of a list that one entry may be added to
pub grown_by : {E A F : Type 0} (r : Result A F) (x : ℕ × E) (before after : List (ℕ × E))
    → OnOk r (after ≡ before ++ x ∷ []) → OnErr r (after ≡ before) → Grows [] before after
grown_by (Ok u) x before after added kept = (x ∷ [], added, refl)
grown_by (Err e) x before after added kept = ([], kept ∙ sym (append-nil before), refl)

at_place : (n k : ℕ) → k < 2 → get_or (1 ∷ 2 ∷ []) k n ≡ n → (n ≡ 1) ⊎ (n ≡ 2)
at_place n zero lt e = inl (sym e)
at_place n (suc zero) lt e = inr (sym e)
at_place n (suc (suc k)) lt e = absurd (omega arith)

module _ {E : Type 0} where
  one_more : (n k : ℕ) (x : ℕ × E) (xs : List (ℕ × E)) → x.0 ≡ n → n ≢ k
      → (length (entries_of n (x ∷ xs)) ≡ suc (length (entries_of n xs)))
      × (length (entries_of k (x ∷ xs)) ≡ length (entries_of k xs))
  one_more n k x xs e apart = (
    ap (λ t. length (cond t (x.1 ∷ entries_of n xs) (entries_of n xs))) (eq-eqb n x.0 (sym e)),
    ap (λ t. length (cond t (x.1 ∷ entries_of k xs) (entries_of k xs))) (ne_eqb k x.0 (λ same. apart (sym (same ∙ e)))),
  )

  -- where all entries are of two seats, there are as many as these made
  pub of_two : (xs : List (ℕ × E)) → All (λ x. Contains (1 ∷ 2 ∷ []) x.0) xs
      → length xs ≡ length (entries_of 1 xs) + length (entries_of 2 xs)
  of_two [] h = refl
  of_two (x ∷ xs) h =
      let later = of_two xs (All-tail (λ y. Contains (1 ∷ 2 ∷ []) y.0) x xs h) in let here = h 0 x (omega arith) in
      ⊎_elim (λ first. let t = one_more 1 2 x xs first (λ e. omega arith) in omega (arith, later, t.0, t.1))
      (λ second. let t = one_more 2 1 x xs second (λ e. omega arith) in omega (arith, later, t.0, t.1))
      (at_place x.0 here.0 here.1 here.2)

module _ {E : Type 0} where
  entries-length : (n : ℕ) (xs : List (ℕ × E)) → length (entries_of n xs) ≤ length xs
  entries-length n [] = omega arith
  entries-length n (x ∷ xs) = dite (ℕ_discrete n x.0)
      (λ same. omega (
        arith,
        entries-length n xs,
        ap (λ t. length (cond t (x.1 ∷ entries_of n xs) (entries_of n xs)))
            (eq-eqb n x.0 same),
      ))
      (λ other. omega (
        arith,
        entries-length n xs,
        ap (λ t. length (cond t (x.1 ∷ entries_of n xs) (entries_of n xs)))
            (ne_eqb n x.0 other),
      ))

  -- a list in which a seat has an entry since the list was built is longer than that
  pub longer_by_one : (n : ℕ) (built xs ys : List (ℕ × E)) (entry : E)
      → entries_of n (drop (length built) xs) ≡ entry ∷ [] → Grows [] xs ys → length built < length ys
  longer_by_one n built xs ys entry e a =
      omega (
        arith,
        entries-length n (drop (length built) xs),
        ap length e,
        length-drop (length built) xs,
        grows-length
            [] xs ys a,
      )
