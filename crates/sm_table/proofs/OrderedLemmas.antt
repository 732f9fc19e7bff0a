-- Lists in an order that a test gives.
use Rattle.std.proofs.Common.{◌≡◌, ℕ, zero, suc, ◌<◌, ◌≤◌, Bool, true, false, not, cond, List, [], ◌∷◌, length, get_or, refl, sym, ap, ◌∙◌, arith}
use Rattle.std.specs.Cmp.{IsStrictWeakOrder}
use Rattle.std.specs.List.{insert, remove}
use Rattle.std.specs.List.Sorted.{IsPartitionedBy}
use Rattle.std.proofs.lemmas.Bool.{and_parts, and_from, false≢true}
use Rattle.sm_table.specs.Ordered.{before, placed, taken, may_follow, ordered}

module _ {X : Type 0} (lt : X → X → Bool) where
  -- put in at the place behind those before it
  pub insert_placed : (xs : List X) (x : X) → insert xs (before lt xs x) x ≡ placed lt xs x
  insert_placed [] x = refl
  insert_placed (y ∷ ys) x = by (lt y x) (insert_placed ys x)
    where
      by : (b : Bool) → insert ys (before lt ys x) x ≡ placed lt ys x
          → insert (y ∷ ys) (cond b (suc (before lt ys x)) zero) x ≡ cond b (y ∷ placed lt ys x) (x ∷ y ∷ ys)
      by true rest = ap (λ zs. y ∷ zs) rest
      by false rest = refl

  -- taken out there
  pub remove_taken : (xs : List X) (x d : X) → before lt xs x < length xs
      → lt x (get_or xs (before lt xs x) d) ≡ false → remove xs (before lt xs x) ≡ taken lt xs x
  remove_taken [] x d lt here = absurd (omega arith)
  remove_taken (y ∷ ys) x d less here = by (lt y x) less here (remove_taken ys x d)
    where
      by : (b : Bool) → cond b (suc (before lt ys x)) zero < suc (length ys)
          → lt x (get_or (y ∷ ys) (cond b (suc (before lt ys x)) zero) d) ≡ false
          → (before lt ys x < length ys → lt x (get_or ys (before lt ys x) d) ≡ false
          → remove ys (before lt ys x) ≡ taken lt ys x)
          → remove (y ∷ ys) (cond b (suc (before lt ys x)) zero)
          ≡ cond b (y ∷ taken lt ys x) (cond (lt x y) (y ∷ ys) ys)
      by true less here rest = ap (λ zs. y ∷ zs) (rest (omega arith) here)
      by false less here rest = rw here refl

  -- and left where it is not there
  pub absent_taken : (xs : List X) (x d : X)
      → (before lt xs x < length xs → lt x (get_or xs (before lt xs x) d) ≡ true) → taken lt xs x ≡ xs
  absent_taken [] x d here = refl
  absent_taken (y ∷ ys) x d here = by (lt y x) here (absent_taken ys x d)
    where
      by : (b : Bool)
          → (cond b (suc (before lt ys x)) zero < suc (length ys)
          → lt x (get_or (y ∷ ys) (cond b (suc (before lt ys x)) zero) d) ≡ true)
          → ((before lt ys x < length ys → lt x (get_or ys (before lt ys x) d) ≡ true) → taken lt ys x ≡ ys)
          → cond b (y ∷ taken lt ys x) (cond (lt x y) (y ∷ ys) ys) ≡ y ∷ ys
      by true here rest = ap (λ zs. y ∷ zs) (rest (λ less. here (omega arith)))
      by false here rest = rw (here (omega arith)) refl

  pub before_within : (xs : List X) (x : X) → before lt xs x ≤ length xs
  before_within [] x = omega arith
  before_within (y ∷ ys) x = by (lt y x) (before_within ys x)
    where
      by : (b : Bool) → before lt ys x ≤ length ys → cond b (suc (before lt ys x)) zero ≤ suc (length ys)
      by true rest = omega arith
      by false rest = omega arith

  -- the place where those before end and the others begin
  pub before_is : (xs : List X) (x d : X) (i : ℕ) → i ≤ length xs
      → ((k : ℕ) → k < i → lt (get_or xs k d) x ≡ true)
      → ((k : ℕ) → i ≤ k → k < length xs → lt (get_or xs k d) x ≡ false) → before lt xs x ≡ i
  before_is [] x d zero h low high = refl
  before_is [] x d (suc i) h low high = absurd (omega arith)
  before_is (y ∷ ys) x d zero h low high = rw (high zero (omega arith) (omega arith)) refl
  before_is (y ∷ ys) x d (suc i) h low high =
      rw (low zero (omega arith))
      (ap suc (before_is ys x d i (omega arith) (λ k g. low (suc k) (omega arith))
      (λ k f g. high (suc k) (omega arith) (omega arith))))

  module _ (laws : IsStrictWeakOrder lt) where
    itself : (x : X) → lt x x ≡ false
    itself x = by (lt x x) refl
      where
        by : (b : Bool) → b ≡ lt x x → b ≡ false
        by true e = e ∙ laws.one_way x x (sym e)
        by false e = refl

    -- what is before a later one, and not before a third, has the third before the later one
    between : (x y z : X) → lt x z ≡ true → lt x y ≡ false → lt y z ≡ true
    between x y z h other = by (lt y z) refl
      where
        by : (b : Bool) → b ≡ lt y z → b ≡ true
        by true e = refl
        by false e = absurd (false≢true (sym (laws.chain x y z other (sym e)) ∙ h))

    pub placed_ordered : (xs : List X) (a : X) → ordered lt xs ≡ true → ordered lt (placed lt xs a) ≡ true
    placed_ordered [] a h = refl
    placed_ordered (y ∷ ys) a h =
        let parts = and_parts (may_follow lt y ys) (ordered lt ys) h in
        by (lt y a) refl parts.0 (placed_ordered ys a parts.1)
      where
        follows : (zs : List X) → lt a y ≡ false → may_follow lt y zs ≡ true → may_follow lt y (placed lt zs a) ≡ true
        follows [] less f = rw less refl
        follows (z ∷ zs) less f = each (lt z a)
          where
            each : (c : Bool) → may_follow lt y (cond c (z ∷ placed lt zs a) (a ∷ z ∷ zs)) ≡ true
            each true = f
            each false = rw less refl

        by : (b : Bool) → b ≡ lt y a → may_follow lt y ys ≡ true → ordered lt (placed lt ys a) ≡ true
            → ordered lt (cond b (y ∷ placed lt ys a) (a ∷ y ∷ ys)) ≡ true
        by true e first rest =
            and_from (may_follow lt y (placed lt ys a)) (ordered lt (placed lt ys a))
            (follows ys (laws.one_way y a (sym e)) first) rest
        by false e first rest = and_from (not (lt y a)) (ordered lt (y ∷ ys)) (rw (← e) refl) h

    -- two that differ, put in one after the other
    pub placed_swap : (xs : List X) (a b : X) → lt a b ≡ true
        → placed lt (placed lt xs a) b ≡ placed lt (placed lt xs b) a
    placed_swap [] a b h = rw (h, laws.one_way a b h) refl
    placed_swap (y ∷ ys) a b h = by (lt y a) (lt y b) refl refl (placed_swap ys a b h)
      where
        by : (p q : Bool) → p ≡ lt y a → q ≡ lt y b
            → placed lt (placed lt ys a) b ≡ placed lt (placed lt ys b) a
            → placed lt (cond p (y ∷ placed lt ys a) (a ∷ y ∷ ys)) b
            ≡ placed lt (cond q (y ∷ placed lt ys b) (b ∷ y ∷ ys)) a
        by true true e f rest = rw (← e, ← f) (ap (λ zs. y ∷ zs) rest)
        by true false e f rest =
            absurd (false≢true (sym (laws.chain y b a (sym f) (laws.one_way a b h)) ∙ sym e))
        by false true e f rest = rw (h, ← f, ← e) refl
        by false false e f rest = rw (h, laws.one_way a b h, ← f) refl

    -- what was put in is taken out again
    pub placed_taken : (xs : List X) (a : X) → taken lt (placed lt xs a) a ≡ xs
    placed_taken [] a = rw (itself a) refl
    placed_taken (y ∷ ys) a = by (lt y a) refl (placed_taken ys a)
      where
        by : (b : Bool) → b ≡ lt y a → taken lt (placed lt ys a) a ≡ ys
            → taken lt (cond b (y ∷ placed lt ys a) (a ∷ y ∷ ys)) a ≡ y ∷ ys
        by true e rest = rw (← e) (ap (λ zs. y ∷ zs) rest)
        by false e rest = rw (itself a) refl

    later : (xs : List X) (y d : X) (k : ℕ) → ordered lt (y ∷ xs) ≡ true → k < length xs
        → lt (get_or xs k d) y ≡ false
    later [] y d k h less = absurd (omega arith)
    later (x ∷ xs) y d k h less =
        let parts = and_parts (not (lt x y)) (ordered lt (x ∷ xs)) h in
        let first : lt x y ≡ false = lowered (lt x y) parts.0 in
        by k less first (λ j g. later xs x d j parts.1 g)
      where
        lowered : (b : Bool) → not b ≡ true → b ≡ false
        lowered true e = absurd (false≢true e)
        lowered false e = refl

        by : (k : ℕ) → k < suc (length xs) → lt x y ≡ false
            → ((j : ℕ) → j < length xs → lt (get_or xs j d) x ≡ false) → lt (get_or (x ∷ xs) k d) y ≡ false
        by zero less first rest = first
        by (suc k) less first rest = laws.chain (get_or xs k d) x y (rest k (omega arith)) first

    -- those before one stand in front of the others
    pub parted : (xs : List X) (x : X) → ordered lt xs ≡ true → IsPartitionedBy (λ y. lt y x) xs
    parted [] x h = λ i j d low high is. absurd (omega arith)
    parted (y ∷ ys) x h =
        λ i j d low high is.
        by i j d low high is (parted ys x (and_parts (may_follow lt y ys) (ordered lt ys) h).1)
      where
        by : (i j : ℕ) (d : X) → i ≤ j → j < suc (length ys) → lt (get_or (y ∷ ys) j d) x ≡ true
            → IsPartitionedBy (λ z. lt z x) ys → lt (get_or (y ∷ ys) i d) x ≡ true
        by zero zero d low high is rest = is
        by zero (suc j) d low high is rest =
            between (get_or ys j d) y x is (later ys y d j h (omega arith))
        by (suc i) zero d low high is rest = absurd (omega arith)
        by (suc i) (suc j) d low high is rest = rest i j d (omega arith) (omega arith) is
