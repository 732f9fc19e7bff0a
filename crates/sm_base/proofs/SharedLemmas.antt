-- Finding by a key in a list whose copies share its items.
use Rattle.std.proofs.Common.{◌≡◌, ◌≢◌, ℕ, suc, ◌+◌, ◌<◌, ◌≤◌, Bool, true, false, not, cond, List, [], ◌∷◌, ◌++◌, length, get_or, nat_eq, Some, None, slice_get, refl, sym, ap, ◌∙◌, arith, ltb, ⊎_elim}
use Rattle.std.specs.List.{find, position, position_or_len}
use Rattle.std.specs.Cmp.Lexicographic.{pointwise, bytes_decides}
use Rattle.std.proofs.lemmas.Bool.{cases_lt, ltb-false, ltb-true, lt-ltb}
use Rattle.std.proofs.lemmas.List.{length-append}
use Rattle.std.proofs.lemmas.List.Folds.{find_at}
use Rattle.std.proofs.lemmas.List.Sums.{passes_at_first, fails_before_first}
use Rattle.std.proofs.lemmas.Option.{slice_get_past}
use Rattle.sm_base.specs.Sums.{sum_of}

-- keys with other numbers are other keys
pub other_key : (a b : List ℕ) → sum_of a ≢ sum_of b → pointwise nat_eq a b ≡ false
other_key a b other = by (pointwise nat_eq a b) refl
  where
    by : (t : Bool) → t ≡ pointwise nat_eq a b → t ≡ false
    by true e = absurd (other (ap sum_of ((bytes_decides a b).0 (sym e))))
    by false e = refl

-- where none before a place passes, and the item at it does not either, none up to it does
pub none_upto : {X : Type 0} (passes : X → Bool) (xs : List X) (at : ℕ) (x : X) → at ≤ position_or_len passes xs
    → at < length xs → x ≡ get_or xs at x → passes x ≡ false → at + 1 ≤ position_or_len passes xs
none_upto passes xs at x low within is fails = ⊎_elim (λ h. omega arith) past (cases_lt at (position_or_len passes xs))
  where
    past : position_or_len passes xs ≤ at → at + 1 ≤ position_or_len passes xs
    past h =
        let e : position_or_len passes xs ≡ at = omega arith in
        absurd (grind (arith, is, fails, rw e at (passes_at_first passes xs x (rw e within))))

-- where none before a place passes, and the item at it does, it is the first place
pub first_at : {X : Type 0} (passes : X → Bool) (xs : List X) (at : ℕ) (x : X) → at ≤ position_or_len passes xs
    → at < length xs → x ≡ get_or xs at x → passes x ≡ true → position passes xs ≡ Some at
first_at passes xs at x low within is passed =
    ⊎_elim (λ h. absurd (grind (arith, is, passed, fails_before_first passes xs at x h))) here
    (cases_lt at (position_or_len passes xs))
  where
    here : position_or_len passes xs ≤ at → position passes xs ≡ Some at
    here h =
        let e : position_or_len passes xs ≡ at = omega arith in
        rw e (rw (lt-ltb at (length xs) within) refl)

-- the item at the first place that passes is the first that passes
pub item_at_position : {X : Type 0} (passes : X → Bool) (xs : List X) (place : ℕ) → position passes xs ≡ Some place
    → slice_get xs place ≡ find passes xs
item_at_position passes xs place e = by (ltb (position_or_len passes xs) (length xs)) e
  where
    by : (b : Bool) → cond b (Some (position_or_len passes xs)) None ≡ Some place → slice_get xs place ≡ find passes xs
    by true h = grind (arith, h, find_at passes xs)
    by false h = absurd (cc)

-- where no place passes, no item does
pub no_item : {X : Type 0} (passes : X → Bool) (xs : List X) → position passes xs ≡ None → find passes xs ≡ None
no_item passes xs e = by (ltb (position_or_len passes xs) (length xs)) refl e
  where
    by : (b : Bool) → b ≡ ltb (position_or_len passes xs) (length xs)
        → cond b (Some (position_or_len passes xs)) None ≡ None → find passes xs ≡ None
    by true t h = absurd (cc)
    by false t h =
        find_at passes xs
        ∙ slice_get_past xs (position_or_len passes xs) (ltb-false (position_or_len passes xs) (length xs) (sym t))

-- ---- the first place in two lists, one behind the other

module _ {X : Type 0} (test : X → Bool) where
  len_before : (xs ys : List X) → position_or_len test xs < length xs
      → position_or_len test (xs ++ ys) ≡ position_or_len test xs
  len_before [] ys h = absurd (omega arith)
  len_before (x ∷ xs) ys h = by (λ l. len_before xs ys l) (test x) h
    where
      by : (position_or_len test xs < length xs → position_or_len test (xs ++ ys) ≡ position_or_len test xs)
          → (b : Bool) → cond (not b) (1 + position_or_len test xs) 0 < suc (length xs)
          → cond (not b) (1 + position_or_len test (xs ++ ys)) 0 ≡ cond (not b) (1 + position_or_len test xs) 0
      by others true l = refl
      by others false l = ap (λ n. 1 + n) (others (omega (arith, l)))

  len_behind : (xs ys : List X) → length xs ≤ position_or_len test xs
      → position_or_len test (xs ++ ys) ≡ length xs + position_or_len test ys
  len_behind [] ys h =
      let all : 0 + position_or_len test ys ≡ position_or_len test ys = omega arith in sym all
  len_behind (x ∷ xs) ys h = by (λ l. len_behind xs ys l) (test x) h
    where
      by : (length xs ≤ position_or_len test xs
          → position_or_len test (xs ++ ys) ≡ length xs + position_or_len test ys) → (b : Bool)
          → suc (length xs) ≤ cond (not b) (1 + position_or_len test xs) 0
          → cond (not b) (1 + position_or_len test (xs ++ ys)) 0 ≡ suc (length xs) + position_or_len test ys
      by others true l = absurd (omega (arith, l))
      by others false l = omega (arith, others (omega (arith, l)))

  is_at : (xs : List X) (place : ℕ) → position_or_len test xs ≡ place → place < length xs
      → position test xs ≡ Some place
  is_at xs place e l = rw e (rw (lt-ltb place (length xs) l) refl)

  is_nowhere : (xs : List X) → length xs ≤ position_or_len test xs → position test xs ≡ None
  is_nowhere xs l = by (ltb (position_or_len test xs) (length xs)) refl
    where
      by : (b : Bool) → b ≡ ltb (position_or_len test xs) (length xs)
          → cond b (Some (position_or_len test xs)) None ≡ None
      by true t = absurd (omega (arith, l, ltb-true (position_or_len test xs) (length xs) (sym t)))
      by false t = refl

  place_of : (xs : List X) (place : ℕ) → position test xs ≡ Some place
      → (position_or_len test xs ≡ place) × (place < length xs)
  place_of xs place e = by (ltb (position_or_len test xs) (length xs)) refl e
    where
      by : (b : Bool) → b ≡ ltb (position_or_len test xs) (length xs)
          → cond b (Some (position_or_len test xs)) None ≡ Some place
          → (position_or_len test xs ≡ place) × (place < length xs)
      by true t h =
          let same : position_or_len test xs ≡ place = cc in
          (same, omega (arith, same, ltb-true (position_or_len test xs) (length xs) (sym t)))
      by false t h = absurd (cc)

  nowhere_in : (xs : List X) → position test xs ≡ None → length xs ≤ position_or_len test xs
  nowhere_in xs e = by (ltb (position_or_len test xs) (length xs)) refl e
    where
      by : (b : Bool) → b ≡ ltb (position_or_len test xs) (length xs)
          → cond b (Some (position_or_len test xs)) None ≡ None → length xs ≤ position_or_len test xs
      by true t h = absurd (cc)
      by false t h = ltb-false (position_or_len test xs) (length xs) (sym t)

  pub position_before : (xs ys : List X) (place : ℕ) → position test xs ≡ Some place
      → position test (xs ++ ys) ≡ Some place
  position_before xs ys place e =
      let at = place_of xs place e in
      is_at (xs ++ ys) place (len_before xs ys (omega (arith, at.0, at.1)) ∙ at.0)
      (omega (arith, at.1, length-append xs ys))

  pub position_behind : (xs ys : List X) (place : ℕ) → position test xs ≡ None → position test ys ≡ Some place
      → position test (xs ++ ys) ≡ Some (length xs + place)
  position_behind xs ys place none e =
      let at = place_of ys place e in
      is_at (xs ++ ys) (length xs + place)
      (len_behind xs ys (nowhere_in xs none) ∙ ap (λ n. length xs + n) at.0)
      (omega (arith, at.1, length-append xs ys))

  pub position_nowhere : (xs ys : List X) → position test xs ≡ None → position test ys ≡ None
      → position test (xs ++ ys) ≡ None
  position_nowhere xs ys none e =
      is_nowhere (xs ++ ys)
      (omega (arith, len_behind xs ys (nowhere_in xs none), nowhere_in ys e, length-append xs ys))
