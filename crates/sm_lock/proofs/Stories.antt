-- How lists of entries grow.
use Rattle.std.proofs.Common.{◌≡◌, ℕ, zero, suc, ◌+◌, ◌<◌, ◌≤◌, List, [], ◌∷◌, ◌++◌, length, take, drop, get_or, cond, eqb, lt-ltb, le-ltb, sym, ap, ◌∙◌, refl, subst, eq-eqb, ne_eqb, arith, length-append, length-take, ⊎_elim, ◌⊎◌}
use mathlib.Core.Logic.{dite}
use mathlib.Core.List.{append_assoc, append-nil}
use mathlib.Core.Bool.{true, false}
use Rattle.std.proofs.lemmas.List.{take-append-le}
use native.Mathlib.Decide.{ℕ_discrete, dec_lt}
use Rattle.sm_lock.specs.Story.{times, made_by, Grows, entries_of, longer}
use Rattle.sm_lock.proofs.Sums.{times-append, if_same}

abbrev L : Type 0 → Type 0
L E = List (ℕ × E)

module _ {E : Type 0} where
  pub made-append : (ns : List ℕ) (xs ys : L E) → made_by ns (xs ++ ys) ≡ made_by ns xs + made_by ns ys
  made-append ns [] ys = omega arith
  made-append ns (x ∷ xs) ys = omega (arith, made-append ns xs ys)

  -- of two lists of numbers
  pub made-both : (ns ms : List ℕ) (xs : L E) → made_by (ns ++ ms) xs ≡ made_by ns xs + made_by ms xs
  made-both ns ms [] = omega arith
  made-both ns ms (x ∷ xs) = omega (arith, made-both ns ms xs, times-append x.0 ns ms)

  pub made-none : (xs : L E) → made_by [] xs ≡ 0
  made-none [] = refl
  made-none (x ∷ xs) = omega (arith, made-none xs)

  pub made-one : (ns : List ℕ) (n : ℕ) (entry : E) → times n ns ≡ 0 → made_by ns ((n, entry) ∷ []) ≡ 0
  made-one ns n entry h = omega (arith, h)

  pub grows-same : (ns : List ℕ) (xs : L E) → Grows ns xs xs
  grows-same ns xs = ([], sym (append-nil xs), refl)

  pub grows-nil : (xs : L E) → Grows [] [] xs
  grows-nil xs = (xs, refl, made-none xs)

  pub grows-trans : (ns : List ℕ) (xs ys zs : L E) → Grows ns xs ys → Grows ns ys zs → Grows ns xs zs
  grows-trans ns xs ys zs a b = (
    a.0 ++ b.0,
    b.1 ∙ ap (λ (l : L E). l ++ b.0) a.1
        ∙ append_assoc xs a.0 b.0,
    omega (arith, made-append ns a.0 b.0, a.2, b.2),
  )

  pub grows-none : (xs ys : L E) (ns : List ℕ) → Grows ns xs ys → Grows [] xs ys
  grows-none xs ys ns a = (a.0, a.1, made-none a.0)

  pub grows-length : (ns : List ℕ) (xs ys : L E) → Grows ns xs ys → length xs ≤ length ys
  grows-length ns xs ys a = omega (arith, ap length a.1, length-append xs a.0)

  -- one entry more, of a number that is not among them
  pub grows-more : (ns : List ℕ) (xs ys : L E) (n : ℕ) (entry : E) → times n ns ≡ 0 → Grows ns xs ys
      → Grows ns xs (ys ++ (n, entry) ∷ [])
  grows-more ns xs ys n entry h a = grows-trans ns xs ys (ys ++ (n, entry) ∷ []) a
      ((n, entry) ∷ [], refl, made-one ns n entry h)

  pub begins-length : (built xs : L E) → take (length built) xs ≡ built → length built ≤ length xs
  begins-length built xs e = omega (arith, ap length e, length-take (length built) xs)

  -- two beginnings of one list
  pub front : (xs ys a b : L E) → xs ++ a ≡ ys ++ b → length xs ≤ length ys → (c : L E) × (ys ≡ xs ++ c) × (a ≡ c ++ b)
  front [] ys a b e h = (ys, refl, e)
  front (x ∷ xs) [] a b e h = absurd (omega arith)
  front (x ∷ xs) (y ∷ ys) a b e h =
      let rest = front xs ys a b (ap (drop 1) e) (omega arith) in
      (rest.0, (λ i. get_or (sym e i) 0 x ∷ rest.1 i), rest.2)

  longer-second : (xs ys : L E) → length xs < length ys → longer xs ys ≡ ys
  longer-second xs ys h = ap (λ t. cond t ys xs) (lt-ltb (length xs) (length ys) h)

  longer-first : (xs ys : L E) → length ys ≤ length xs → longer xs ys ≡ xs
  longer-first xs ys h = ap (λ t. cond t ys xs) (le-ltb (length xs) (length ys) h)

  pub longer-length : (xs ys : L E) (n : ℕ) → length xs ≤ n → length ys ≤ n → (length xs ≡ n) ⊎ (length ys ≡ n)
      → length (longer xs ys) ≡ n
  longer-length xs ys n a b e = dite (dec_lt (length xs) (length ys))
      (λ h. ap length (longer-second xs ys h) ∙ ⊎_elim (λ p. absurd (omega arith)) (λ p. p) e)
      (λ h. ap length (longer-first xs ys (omega arith)) ∙ ⊎_elim (λ p. p) (λ p. omega arith) e)

  -- what is known of the longer of two beginnings of one list
  abbrev pub Joined : List ℕ → List ℕ → L E → L E → L E → L E → Type 0
  Joined ns ms xs ys log z = Grows ns xs z × Grows ms ys z × Grows (ns ++ ms) z log

  joins-second : (ns ms : List ℕ) (xs ys log : L E) → Grows ns xs log → Grows ms ys log → length xs ≤ length ys
      → Joined ns ms xs ys log ys
  joins-second ns ms xs ys log a b h = let f = front xs ys a.0 b.0 (sym a.1 ∙ b.1) h in
      let here : made_by ns a.0 ≡ made_by ns f.0 + made_by ns b.0 = ap (made_by ns) f.2 ∙ made-append ns f.0 b.0 in (
        (f.0, f.1, omega (arith, here, a.2)),
        grows-same ms ys,
        (b.0, b.1, omega (arith, made-both ns ms b.0, here, a.2, b.2)),
      )

  joins-first : (ns ms : List ℕ) (xs ys log : L E) → Grows ns xs log → Grows ms ys log → length ys ≤ length xs
      → Joined ns ms xs ys log xs
  joins-first ns ms xs ys log a b h = let j = joins-second ms ns ys xs log b a h in
      (j.1, j.0, (j.2.0, j.2.1, omega (arith, made-both ns ms j.2.0, made-both ms ns j.2.0, j.2.2)))

  pub joins : (ns ms : List ℕ) (xs ys log : L E) → Grows ns xs log → Grows ms ys log
      → Joined ns ms xs ys log (longer xs ys)
  joins ns ms xs ys log a b = dite (dec_lt (length xs) (length ys))
      (λ h. subst (Joined ns ms xs ys log) (sym (longer-second xs ys h))
      (joins-second ns ms xs ys log a b (omega arith)))
      (λ h. subst (Joined ns ms xs ys log) (sym (longer-first xs ys (omega arith)))
      (joins-first ns ms xs ys log a b (omega arith)))

  -- the list begins with these entries
  pub begins-grows : (ns : List ℕ) (built xs ys : L E) → take (length built) xs ≡ built → Grows ns xs ys
      → take (length built) ys ≡ built
  begins-grows ns built xs ys e a = ap (take (length built)) a.1
      ∙ take-append-le (length built) xs a.0 (begins-length built xs e) ∙ e

  pub entries-append : (n : ℕ) (xs ys : L E) → entries_of n (xs ++ ys) ≡ entries_of n xs ++ entries_of n ys
  entries-append n [] ys = refl
  entries-append n (x ∷ xs) ys =
      elim (eqb n x.0) as (λ t. cond t (x.1 ∷ entries_of n (xs ++ ys)) (entries_of n (xs ++ ys))
      ≡ cond t (x.1 ∷ entries_of n xs) (entries_of n xs) ++ entries_of n ys)
      [ true ↦ ap (λ (es : List E). x.1 ∷ es) (entries-append n xs ys) | false ↦ entries-append n xs ys ]

  pub entries-none : (n : ℕ) (xs : L E) → made_by (n ∷ []) xs ≡ 0 → entries_of n xs ≡ []
  entries-none n [] h = refl
  entries-none n (x ∷ xs) h = dite (ℕ_discrete n x.0)
      (λ same. absurd (omega (arith, h, if_same x.0 n (sym same))))
      (λ other. ap (λ t. cond t (x.1 ∷ entries_of n xs) (entries_of n xs)) (ne_eqb n x.0 other)
      ∙ entries-none n xs (omega (arith, h)))

  pub drop-front : (k : ℕ) (xs ys : L E) → k ≤ length xs → drop k (xs ++ ys) ≡ drop k xs ++ ys
  drop-front zero xs ys h = refl
  drop-front (suc k) [] ys h = absurd (omega arith)
  drop-front (suc k) (x ∷ xs) ys h = drop-front k xs ys (omega arith)

  -- the entries of a number since the list was built
  pub since : (n : ℕ) (built xs more : L E) → take (length built) xs ≡ built
      → entries_of n (drop (length built) (xs ++ more)) ≡ entries_of n (drop (length built) xs) ++ entries_of n more
  since n built xs more e = ap (entries_of n) (drop-front (length built) xs more (begins-length built xs e))
      ∙ entries-append n (drop (length built) xs) more

  -- what others add leaves them
  pub since-grows : (n : ℕ) (built xs ys : L E) → take (length built) xs ≡ built → Grows (n ∷ []) xs ys
      → entries_of n (drop (length built) ys) ≡ entries_of n (drop (length built) xs)
  since-grows n built xs ys e a =
      ap (λ (l : L E). entries_of n (drop (length built) l)) a.1 ∙ since n built xs a.0 e
      ∙ ap (λ (es : List E). entries_of n (drop (length built) xs) ++ es) (entries-none n a.0 a.2)
      ∙ append-nil (entries_of n (drop (length built) xs))

  -- one entry of its own is added at the end
  pub since-more : (n : ℕ) (built xs : L E) (entry : E) → take (length built) xs ≡ built
      → entries_of n (drop (length built) (xs ++ (n, entry) ∷ [])) ≡ entries_of n (drop (length built) xs) ++ entry ∷ []
  since-more n built xs entry e = since n built xs ((n, entry) ∷ []) e
      ∙ ap (λ t. entries_of n (drop (length built) xs) ++ cond t (entry ∷ []) []) (eq-eqb n n refl)

  -- the same, where the list that was built is named anew
  pub mine-same : (n : ℕ) (built again xs ys : L E) → again ≡ built → take (length built) xs ≡ built
      → Grows (n ∷ []) xs ys
      → entries_of n (drop (length again) ys) ≡ entries_of n (drop (length built) xs)
  mine-same n built again xs ys same e a = ap (λ (l : L E). entries_of n (drop (length l) ys)) same
      ∙ since-grows n built xs ys e a

  pub mine-more : (n : ℕ) (built again xs ys : L E) (entry : E) → again ≡ built → take (length built) xs ≡ built
      → ys ≡ xs ++ (n, entry) ∷ []
      → entries_of n (drop (length again) ys) ≡ entries_of n (drop (length built) xs) ++ entry ∷ []
  mine-more n built again xs ys entry same e is =
      ap (λ (l : L E). entries_of n (drop (length l) ys)) same
      ∙ ap (λ (l : L E). entries_of n (drop (length built) l)) is ∙ since-more n built xs entry e
