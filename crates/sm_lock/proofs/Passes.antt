-- What is known of each pass of a list, as the list of entries grows.
use Rattle.std.proofs.Common.{◌≡◌, ℕ, zero, suc, ◌+◌, ◌<◌, ◌≤◌, List, [], ◌∷◌, ◌++◌, length, take, drop, map, get_or, sym, ap, ◌∙◌, refl, subst, arith, All}
use mathlib.Core.Logic.{dite}
use native.Mathlib.Decide.{ℕ_discrete}
use Rattle.std.specs.List.{Contains, range_with_len}
use Rattle.std.proofs.lemmas.List.{map-append}
use Rattle.std.proofs.lemmas.List.Elements.{All-head, All-tail}
use Rattle.sm_lock.specs.Story.{times, made_by, Grows}
use Rattle.sm_lock.proofs.Sums.{times-append, if_same, if_other}
use Rattle.sm_lock.proofs.Stories.{grows-trans, drop-front, begins-length}

pub range-more : (a n : ℕ) → range_with_len a (n + 1) ≡ range_with_len a n ++ (a + n) ∷ []
range-more a zero = ap (λ (k : ℕ). k ∷ []) (let e : a ≡ a + 0 = omega arith in e)
range-more a (suc n) = ap (range_with_len a) (let e : suc n + 1 ≡ suc (n + 1) = omega arith in e)
    ∙ ap (λ (l : List ℕ). a ∷ l) (range-more (a + 1) n
    ∙ ap (λ (k : ℕ). range_with_len (a + 1) n ++ k ∷ []) (let e : (a + 1) + n ≡ a + suc n = omega arith in e))

pub times-map : {P : Type 0} (f : P → ℕ) (ps : List P) (k : ℕ) (d : P) → k < length ps
    → 0 < times (f (get_or ps k d)) (map f ps)
times-map f [] k d h = absurd (omega arith)
times-map f (p ∷ ps) zero d h = omega (arith, if_same (f p) (f p) refl)
times-map f (p ∷ ps) (suc k) d h = omega (arith, times-map f ps k d (omega arith))

pub times-contains : (n : ℕ) (l : List ℕ) → 0 < times n l → Contains l n
times-contains n [] h = absurd (omega arith)
times-contains n (k ∷ ks) h = dite (ℕ_discrete n k)
    (λ same. (0, omega arith, sym same))
    (λ other. let t = times-contains n ks (omega (arith, if_other n k other)) in (suc t.0, omega (arith, t.1), t.2))

-- each of these passes has one of the numbers
abbrev pub Among : {P : Type 0} → (P → ℕ) → List ℕ → List P → Type 0
Among {P} f ns ps = (k : ℕ) (d : P) → k < length ps → 0 < times (f (get_or ps k d)) ns

module _ {E : Type 0} where
  -- of fewer numbers
  made-fewer : (n : ℕ) (ns : List ℕ) (xs : List (ℕ × E)) → 0 < times n ns → made_by (n ∷ []) xs ≤ made_by ns xs
  made-fewer n ns [] h = omega arith
  made-fewer n ns (x ∷ xs) h = dite (ℕ_discrete x.0 n)
      (λ same. let here : 0 < times x.0 ns = subst (λ (k : ℕ). 0 < times k ns) (sym same) h in
      omega (arith, made-fewer n ns xs h, if_same x.0 n same, here))
      (λ other. omega (arith, made-fewer n ns xs h, if_other x.0 n other))

  pub grows-fewer : (n : ℕ) (ns : List ℕ) (xs ys : List (ℕ × E)) → 0 < times n ns → Grows ns xs ys
      → Grows (n ∷ []) xs ys
  grows-fewer n ns xs ys h a = (a.0, a.1, omega (arith, made-fewer n ns a.0 h, a.2))

  pub grows-on : (n : ℕ) (ns : List ℕ) (xs ys zs : List (ℕ × E)) → 0 < times n ns → Grows (n ∷ []) xs ys
      → Grows ns ys zs → Grows (n ∷ []) xs zs
  grows-on n ns xs ys zs h a b = grows-trans (n ∷ []) xs ys zs a (grows-fewer n ns ys zs h b)

  pub all-grow : {P : Type 0} (f : P → ℕ) (s : P → List (ℕ × E)) (ns : List ℕ) (ps : List P) (ys zs : List (ℕ × E))
      → Among f ns ps
      → All (λ p. Grows (f p ∷ []) (s p) ys) ps → Grows ns ys zs → All (λ p. Grows (f p ∷ []) (s p) zs) ps
  all-grow f s ns ps ys zs among a b k d h = let p = get_or ps k d in
      grows-on (f p) ns (s p) ys zs (among k d h) (a k d h) b

  pub drop-built : (built added whole : List (ℕ × E)) → whole ≡ built ++ added → drop (length built) whole ≡ added
  drop-built [] added whole e = e
  drop-built (x ∷ xs) added whole e = ap (drop (length (x ∷ xs))) e ∙ drop-built xs added (xs ++ added) refl

  made-here : (xs : List (ℕ × E)) (k : ℕ) (d : ℕ × E) → k < length xs → 0 < made_by ((get_or xs k d).0 ∷ []) xs
  made-here [] k d h = absurd (omega arith)
  made-here (x ∷ xs) zero d h = omega (arith, if_same x.0 x.0 refl)
  made-here (x ∷ xs) (suc k) d h = omega (arith, made-here xs k d (omega arith))

  pub all-among : (ns : List ℕ) (xs : List (ℕ × E)) → ((n : ℕ) → 0 < made_by (n ∷ []) xs → 0 < times n ns)
      → All (λ x. Contains ns x.0) xs
  all-among ns xs h k d lt = times-contains (get_or xs k d).0 ns (h (get_or xs k d).0 (made-here xs k d lt))

-- where each pass has seen all entries of its number, an entry stands in what the pass of its number has seen
module _ {P E : Type 0} (f : P → ℕ) (s : P → List (ℕ × E)) (built : List (ℕ × E)) where
  -- a pass that has seen the built list, and all its own entries of a list
  abbrev pub Knows : List (ℕ × E) → P → Type 0
  Knows whole p = Grows (f p ∷ []) (s p) whole × (take (length built) (s p) ≡ built)

  abbrev Stands : List P → ℕ × E → Type 0
  Stands ps x = (p : P) × Contains ps p × (f p ≡ x.0) × Contains (drop (length built) (s p)) x

  with_number : (whole : List (ℕ × E)) (ps : List P) (n k : ℕ) → k < length (map f ps) → get_or (map f ps) k n ≡ n
      → All (Knows whole) ps
      → (p : P) × Contains ps p × (f p ≡ n) × Knows whole p
  with_number whole [] n k lt e h = absurd (omega arith)
  with_number whole (p ∷ ps) n zero lt e h = (p, (0, omega arith, refl), e, All-head (Knows whole) p ps h)
  with_number whole (p ∷ ps) n (suc k) lt e h =
      let t = with_number whole ps n k (omega arith) e (All-tail (Knows whole) p ps h) in
      (t.0, (suc t.1.0, omega (arith, t.1.1), t.1.2), t.2, t.3)

  in_front : (own more : List (ℕ × E)) (k : ℕ) (d : ℕ × E) → k < length (own ++ more)
      → made_by ((get_or (own ++ more) k d).0 ∷ []) more ≡ 0 → Contains own (get_or (own ++ more) k d)
  in_front [] more k d lt h = absurd (omega (arith, made-here more k d lt, h))
  in_front (y ∷ ys) more zero d lt h = (0, omega arith, refl)
  in_front (y ∷ ys) more (suc k) d lt h = let t = in_front ys more k d (omega arith) h in
      (suc t.0, omega (arith, t.1), t.2)

  pub all_stand : (whole : List (ℕ × E)) (ps : List P) → whole ≡ built ++ drop (length built) whole
      → All (Knows whole) ps → All (λ x. Contains (map f ps) x.0) (drop (length built) whole)
      → All (Stands ps) (drop (length built) whole)
  all_stand whole ps begins knows numbers k d lt =
      let rest = drop (length built) whole in let x = get_or rest k d in
      let found = numbers k d lt in
      let t = with_number whole ps x.0 found.0 found.1 found.2 knows in let p = t.0 in let more = t.3.0.0 in
      let own = drop (length built) (s p) in
      let both : rest ≡ own ++ more = ap (drop (length built)) t.3.0.1
      ∙ drop-front (length built) (s p) more (begins-length built (s p) t.3.1) in
      let here : Contains own (get_or (own ++ more) k d) =
      in_front own more k d (subst (λ (l : List (ℕ × E)). k < length l) both lt)
      (subst (λ (l : List (ℕ × E)). made_by ((get_or l k d).0 ∷ []) more ≡ 0) both
      (subst (λ (n : ℕ). made_by (n ∷ []) more ≡ 0) t.2 t.3.0.2)) in
      (p, t.1, t.2, subst (λ (l : List (ℕ × E)). Contains own (get_or l k d)) (sym both) here)

pub empty_list : {A : Type 0} (l : List A) → length l ≡ 0 → l ≡ []
empty_list [] e = refl
empty_list (x ∷ xs) e = absurd (omega arith)

-- the numbers of these passes, of which the last was taken first
pub among-all : {P : Type 0} (f : P → ℕ) (others : List P) (first : P)
    → Among f (f first ∷ map f others) (others ++ first ∷ [])
among-all f others first k d h =
    let here = times-map f (others ++ first ∷ []) k d h in let n = f (get_or (others ++ first ∷ []) k d) in
    omega (arith, here, ap (times n) (map-append f others (first ∷ [])), times-append n (map f others) (f first ∷ []))

pub contains-all : {P : Type 0} (f : P → ℕ) (others : List P) (first : P) (n : ℕ) → 0 < times n (f first ∷ map f others)
    → 0 < times n (map f (others ++ first ∷ []))
contains-all f others first n h =
    omega (arith, h, ap (times n) (map-append f others (first ∷ [])), times-append n (map f others) (f first ∷ []))
