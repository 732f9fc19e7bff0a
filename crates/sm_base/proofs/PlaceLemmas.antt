-- Items of lists by their places.
use Rattle.std.proofs.Common.{◌≡◌, ℕ, zero, suc, ◌+◌, ◌-◌, ◌<◌, ◌≤◌, Bool, true, false, List, [], ◌∷◌, ◌++◌, length, take, None, Some, slice_get, slice_set, refl, sym, ap, ◌∙◌, subst, arith, ⊎_elim}
use Rattle.std.proofs.lemmas.List.{set-append_left, set-append_right, take_more}
use Rattle.std.proofs.lemmas.Option.{slice_get_cases, slice_get_within, get_or_from_slice_get, none-some}
use Rattle.std.specs.List.{position, position_or_len}
use Rattle.sm_base.proofs.SharedLemmas.{none_upto, first_at}
use Rattle.sm_base.specs.Blocks.{passes}

module _ {X : Type 0} where
  -- an item of the first of two lists
  pub got_before : (xs ys : List X) (i : ℕ) → i < length xs → slice_get (xs ++ ys) i ≡ slice_get xs i
  got_before [] ys i h = absurd (omega arith)
  got_before (x ∷ xs) ys zero h = refl
  got_before (x ∷ xs) ys (suc i) h = got_before xs ys i (omega arith)

  -- an item of the second
  pub got_behind : (xs ys : List X) (i : ℕ) → length xs ≤ i → slice_get (xs ++ ys) i ≡ slice_get ys (i - length xs)
  got_behind [] ys i h = let e : i - 0 ≡ i = omega arith in rw e refl
  got_behind (x ∷ xs) ys zero h = absurd (omega arith)
  got_behind (x ∷ xs) ys (suc i) h =
      let e : suc i - suc (length xs) ≡ i - length xs = omega arith in rw e (got_behind xs ys i (omega arith))

  -- another item in the first, or in the second
  pub set_before : (xs ys : List X) (i : ℕ) (x : X) → i < length xs
      → slice_set (xs ++ ys) i x ≡ slice_set xs i x ++ ys
  set_before xs ys i x l = set-append_left xs ys i x l

  pub set_behind : (xs ys : List X) (i : ℕ) (x : X) → length xs ≤ i
      → slice_set (xs ++ ys) i x ≡ xs ++ slice_set ys (i - length xs) x
  set_behind xs ys i x l = set-append_right xs ys (length xs) i x refl l

  pub there : (xs : List X) (i : ℕ) {P : Type 0} → i < length xs → ((x : X) → slice_get xs i ≡ Some x → P) → P
  there xs i h k =
      ⊎_elim (λ (x, _, e, _). k x e) (λ (past, _). absurd (omega arith)) ((slice_get_cases xs i).1)

  -- one item more of a list, where it is there
  pub took_one : (xs : List X) (i : ℕ) (x : X) → slice_get xs i ≡ Some x → take (i + 1) xs ≡ take i xs ++ x ∷ []
  took_one xs i x e =
      take_more xs i x (slice_get_within xs i x e) ∙ ap (λ y. take i xs ++ y ∷ []) (get_or_from_slice_get xs i x x e)

  -- and there is one at each place of the list
  pub took_none : (xs : List X) (i : ℕ) → i < length xs → slice_get xs i ≡ None → take (i + 1) xs ≡ take i xs
  took_none xs i h e = there xs i h (λ x s. absurd (none-some x (sym e ∙ s)))

  pub there_upto : (test : X → Bool) (xs : List X) (i : ℕ) → i < length xs → slice_get xs i ≡ None
      → i + 1 ≤ position_or_len test xs
  there_upto test xs i h e = there xs i h (λ x s. absurd (none-some x (sym e ∙ s)))

  pub not_upto : (test : X → Bool) (xs : List X) (i : ℕ) (x : X) → i ≤ position_or_len test xs → slice_get xs i ≡ Some x
      → test x ≡ false → i + 1 ≤ position_or_len test xs
  not_upto test xs i x low e =
      none_upto test xs i x low (slice_get_within xs i x e) (sym (get_or_from_slice_get xs i x x e))

  pub found_at : (test : X → Bool) (xs : List X) (i : ℕ) (x : X) → i ≤ position_or_len test xs → slice_get xs i ≡ Some x
      → test x ≡ true → position test xs ≡ Some i
  found_at test xs i x low e =
      first_at test xs i x low (slice_get_within xs i x e) (sym (get_or_from_slice_get xs i x x e))

-- ---- looking for a key

module _ {X : Type 0} (test : X → Bool) (xs : List X) (i : ℕ) where
  pub passed_at : i ≤ position_or_len test xs → passes test (slice_get xs i) ≡ true → position test xs ≡ Some i
  passed_at low p =
      ⊎_elim (λ (x, _, e, _). found_at test xs i x low e (subst (λ o. passes test o ≡ true) e p))
      (λ (_, e). absurd (let h : false ≡ true = subst (λ o. passes test o ≡ true) e p in cc)) ((slice_get_cases xs i).1)

  pub not_passed : i < length xs → i ≤ position_or_len test xs → passes test (slice_get xs i) ≡ false
      → i + 1 ≤ position_or_len test xs
  not_passed within low p =
      there xs i within (λ x e. not_upto test xs i x low e (subst (λ o. passes test o ≡ false) e p))
