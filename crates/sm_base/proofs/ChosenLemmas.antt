-- Items at places that ascend.
use Rattle.std.proofs.Common.{◌≡◌, ◌≢◌, ℕ, zero, suc, ◌+◌, ◌-◌, ◌^◌, ◌<◌, ◌≤◌, Bool, true, false, List, [], ◌∷◌, ◌++◌, length, take, filter, Option, None, Some, get_or, slice_get, slice_set, refl, sym, ap, ◌∙◌, subst, arith}
use Rattle.std.proofs.lemmas.List.{append_assoc, length-append, length-set}
use Rattle.std.proofs.lemmas.List.Elements.{filter-append}
use Rattle.std.proofs.lemmas.List.FromFn.{length-range_with_len}
use Rattle.std.proofs.lemmas.Option.{slice_get_past}
use Rattle.std.specs.List.{cons_option, range_with_len}
use Rattle.sm_base.specs.Blocks.{AreWithin, AreChosen, picked, chosen, passes}
use Rattle.sm_base.proofs.PlaceLemmas.{got_before, there, took_one}

-- ---- places that ascend

within_from : (low more high : ℕ) (ps : List ℕ) → low ≤ more → AreWithin more high ps → AreWithin low high ps
within_from low more high [] h w = tt
within_from low more high (p ∷ ps) h w = (omega (arith, w.0), w.1)

within_up : (low high more : ℕ) (ps : List ℕ) → high ≤ more → AreWithin low high ps → AreWithin low more ps
within_up low high more [] h w = tt
within_up low high more (p ∷ ps) h w = (w.0, (omega (arith, w.1.0), within_up (suc p) high more ps h w.1.1))

kept_within : (test : ℕ → Bool) (low high : ℕ) (ps : List ℕ) → AreWithin low high ps
    → AreWithin low high (filter test ps)
kept_within test low high [] w = tt
kept_within test low high (p ∷ ps) w = by (kept_within test (suc p) high ps w.1.1) (test p) refl
  where
    by : AreWithin (suc p) high (filter test ps) → (t : Bool) → t ≡ test p
        → AreWithin low high (filter test (p ∷ ps))
    by others true e = rw (sym e) ((w.0, (w.1.0, others)))
    by others false e = rw (sym e) (within_from low (suc p) high (filter test ps) (omega (arith, w.0)) others)

range_within : (low n : ℕ) → AreWithin low (low + n) (range_with_len low n)
range_within low zero = tt
range_within low (suc n) =
    let next : low + 1 ≡ suc low = omega arith in
    let end : suc low + n ≡ low + suc n = omega arith in (
      omega arith,
      (
        omega arith,
        rw next (subst (λ h. AreWithin (suc low) h (range_with_len (suc low) n)) end (range_within (suc low) n)),
      ),
    )

more_within : (low mid high : ℕ) (ps qs : List ℕ) → low ≤ mid → mid ≤ high → AreWithin low mid ps
    → AreWithin mid high qs → AreWithin low high (ps ++ qs)
more_within low mid high [] qs l h a b = within_from low mid high qs l b
more_within low mid high (p ∷ ps) qs l h a b =
    (a.0, (omega (arith, a.1.0), more_within (suc p) mid high ps qs (omega (arith, a.1.0)) h a.1.1 b))

pub length_within : (low high : ℕ) (ps : List ℕ) → low ≤ high → AreWithin low high ps → length ps + low ≤ high
length_within low high [] l w = omega arith
length_within low high (p ∷ ps) l w = omega
    (arith, w.0, w.1.0, length_within (suc p) high ps (omega (arith, w.1.0)) w.1.1)

-- a place of such is between the bounds
at_within : (low high : ℕ) (ps : List ℕ) (i at : ℕ) → AreWithin low high ps → i < length ps → at ≡ get_or ps i at
    → (low ≤ at) × (at < high)
at_within low high [] i at w l e = absurd (omega arith)
at_within low high (p ∷ ps) zero at w l e = (omega (arith, e, w.0), omega (arith, e, w.1.0))
at_within low high (p ∷ ps) (suc i) at w l e =
    let behind = at_within (suc p) high ps i at w.1.1 (omega arith) e in (omega (arith, behind.0, w.0), behind.1)

-- a place more of a range
pub range_more : (low n : ℕ) → range_with_len low (n + 1) ≡ range_with_len low n ++ (low + n) ∷ []
range_more low zero = let same : low + 0 ≡ low = omega arith in rw same refl
range_more low (suc n) =
    let more : suc n + 1 ≡ suc (n + 1) = omega arith in
    let last : (low + 1) + n ≡ low + suc n = omega arith in
    rw more (ap (λ l. low ∷ l) (range_more (low + 1) n ∙ ap (λ k. range_with_len (low + 1) n ++ k ∷ []) last))

module _ {X : Type 0} where
  -- ---- the items at them

  length_picked : (low : ℕ) (xs : List X) (ps : List ℕ) → AreWithin low (length xs) ps
      → length (picked xs ps) ≡ length ps
  length_picked low xs [] w = refl
  length_picked low xs (p ∷ ps) w =
      there xs p w.1.0 (λ x e. rw e (ap suc (length_picked (suc p) xs ps w.1.1)))

  got_picked : (low : ℕ) (xs : List X) (ps : List ℕ) (i at : ℕ) → AreWithin low (length xs) ps → i < length ps
      → at ≡ get_or ps i at → slice_get (picked xs ps) i ≡ slice_get xs at
  got_picked low xs [] i at w l e = absurd (omega arith)
  got_picked low xs (p ∷ ps) zero at w l e =
      there xs p w.1.0 (λ x s. rw s (sym s ∙ ap (slice_get xs) (sym e)))
  got_picked low xs (p ∷ ps) (suc i) at w l e =
      there xs p w.1.0 (λ x s. rw s (got_picked (suc p) xs ps i at w.1.1 (omega arith) e))

  past_picked : (low : ℕ) (xs : List X) (ps : List ℕ) (i : ℕ) → AreWithin low (length xs) ps → length ps ≤ i
      → slice_get (picked xs ps) i ≡ None
  past_picked low xs ps i w l = slice_get_past (picked xs ps) i (omega (arith, l, length_picked low xs ps w))

  stays_picked : (low : ℕ) (xs ys : List X) (ps : List ℕ) → AreWithin low (length xs) ps
      → picked (xs ++ ys) ps ≡ picked xs ps
  stays_picked low xs ys [] w = refl
  stays_picked low xs ys (p ∷ ps) w =
      there xs p w.1.0 (λ x s.
      rw (got_before xs ys p w.1.0 ∙ s) (rw s (ap (λ l. x ∷ l) (stays_picked (suc p) xs ys ps w.1.1))))

  picked-append : (xs : List X) (ps qs : List ℕ) → picked xs (ps ++ qs) ≡ picked xs ps ++ picked xs qs
  picked-append xs [] qs = refl
  picked-append xs (p ∷ ps) qs = by (picked-append xs ps qs) (slice_get xs p)
    where
      by : picked xs (ps ++ qs) ≡ picked xs ps ++ picked xs qs → (o : Option X)
          → cons_option o (picked xs (ps ++ qs)) ≡ cons_option o (picked xs ps) ++ picked xs qs
      by others None = others
      by others (Some x) = ap (λ l. x ∷ l) others

  got_seam : (xs : List X) (y : X) (ys : List X) → slice_get (xs ++ y ∷ ys) (length xs) ≡ Some y
  got_seam [] y ys = refl
  got_seam (x ∷ xs) y ys = got_seam xs y ys

  -- the items behind others
  range_picked : (xs ys : List X) → picked (xs ++ ys) (range_with_len (length xs) (length ys)) ≡ ys
  range_picked xs [] = refl
  range_picked xs (y ∷ ys) =
      let whole : (xs ++ y ∷ []) ++ ys ≡ xs ++ y ∷ ys = append_assoc xs (y ∷ []) ys in
      let longer : length (xs ++ y ∷ []) ≡ length xs + 1 = length-append xs (y ∷ []) in
      rw (got_seam xs y ys)
      (ap (λ l. y ∷ l)
      (subst (λ l. picked l (range_with_len (length xs + 1) (length ys)) ≡ ys) whole
      (subst (λ n. picked ((xs ++ y ∷ []) ++ ys) (range_with_len n (length ys)) ≡ ys) longer
      (range_picked (xs ++ y ∷ []) ys))))

  -- the items that pass stand at the places whose items pass
  kept : (test : X → Bool) (low : ℕ) (xs : List X) (ps : List ℕ) → AreWithin low (length xs) ps
      → picked xs (filter (λ p. passes test (slice_get xs p)) ps) ≡ filter test (picked xs ps)
  kept test low xs [] w = refl
  kept test low xs (p ∷ ps) w = there xs p w.1.0 (λ x s. by (kept test (suc p) xs ps w.1.1) x s (test x) refl)
    where
      by : picked xs (filter (λ q. passes test (slice_get xs q)) ps) ≡ filter test (picked xs ps)
          → (x : X) → slice_get xs p ≡ Some x → (b : Bool) → b ≡ test x
          → picked xs (filter (λ q. passes test (slice_get xs q)) (p ∷ ps)) ≡ filter test (picked xs (p ∷ ps))
      by others x s true t = rw s (rw (sym t) (rw s (ap (λ l. x ∷ l) others)))
      by others x s false t = rw s (rw (sym t) others)

  -- ---- another item at a place

  got_set : (xs : List X) (at : ℕ) (x : X) → at < length xs → slice_get (slice_set xs at x) at ≡ Some x
  got_set [] at x l = absurd (omega arith)
  got_set (y ∷ xs) zero x l = refl
  got_set (y ∷ xs) (suc at) x l = got_set xs at x (omega arith)

  got_other : (xs : List X) (at q : ℕ) (x : X) → q ≢ at → slice_get (slice_set xs at x) q ≡ slice_get xs q
  got_other [] at q x n = refl
  got_other (y ∷ xs) zero zero x n = absurd (n refl)
  got_other (y ∷ xs) zero (suc q) x n = refl
  got_other (y ∷ xs) (suc at) zero x n = refl
  got_other (y ∷ xs) (suc at) (suc q) x n = got_other xs at q x (λ e. n (ap suc e))

  untouched : (low high : ℕ) (xs : List X) (ps : List ℕ) (at : ℕ) (x : X) → at < low → AreWithin low high ps
      → picked (slice_set xs at x) ps ≡ picked xs ps
  untouched low high xs [] at x l w = refl
  untouched low high xs (p ∷ ps) at x l w =
      rw (got_other xs at p x (λ e. omega (arith, e, l, w.0)))
      (ap (cons_option (slice_get xs p)) (untouched (suc p) high xs ps at x (omega (arith, l, w.0)) w.1.1))

  replaced : (low : ℕ) (xs : List X) (ps : List ℕ) (i at : ℕ) (x : X) → AreWithin low (length xs) ps → i < length ps
      → at ≡ get_or ps i at → picked (slice_set xs at x) ps ≡ slice_set (picked xs ps) i x
  replaced low xs [] i at x w l e = absurd (omega arith)
  replaced low xs (p ∷ ps) zero at x w l e =
      subst (λ a. picked (slice_set xs a x) (p ∷ ps) ≡ slice_set (picked xs (p ∷ ps)) zero x) (sym e)
      (there xs p w.1.0 (λ y s.
      rw (got_set xs p x w.1.0)
      (rw s (ap (λ l. x ∷ l) (untouched (suc p) (length xs) xs ps p x (omega arith) w.1.1)))))
  replaced low xs (p ∷ ps) (suc i) at x w l e =
      there xs p w.1.0 (λ y s.
      let behind = at_within (suc p) (length xs) ps i at w.1.1 (omega arith) e in
      rw (got_other xs at p x (λ same. omega (arith, same, behind.0)) ∙ s)
      (rw s (ap (λ l. y ∷ l) (replaced (suc p) xs ps i at x w.1.1 (omega arith) e))))

-- ---- all items, where no places are told

module _ {X : Type 0} (xs : List X) where
  pub whole : (ps : List ℕ) → length ps ≡ 0 → chosen xs ps ≡ xs
  whole [] e = refl
  whole (p ∷ ps) e = absurd (omega arith)

  pub told : (ps : List ℕ) → length ps ≢ 0 → chosen xs ps ≡ picked xs ps
  told [] n = absurd (n refl)
  told (p ∷ ps) n = refl

module _ {X : Type 0} (xs : List X) (space : ℕ) (ps : List ℕ) (k : AreChosen xs space ps) where
  pub length_told : length ps ≢ 0 → length (chosen xs ps) ≡ length ps
  length_told n = ap length (told xs ps n) ∙ length_picked 0 xs ps k.within

  pub got_told : (i at : ℕ) → i < length ps → at ≡ get_or ps i at → slice_get (chosen xs ps) i ≡ slice_get xs at
  got_told i at l e =
      ap (λ l. slice_get l i) (told xs ps (λ none. omega (arith, none, l))) ∙ got_picked 0 xs ps i at k.within l e

  pub past_told : (i : ℕ) → length ps ≢ 0 → length ps ≤ i → slice_get (chosen xs ps) i ≡ None
  past_told i n l = ap (λ l. slice_get l i) (told xs ps n) ∙ past_picked 0 xs ps i k.within l

  -- another item at a place
  pub replaced_told : (i at : ℕ) (x : X) → i < length (chosen xs ps) → length ps ≢ 0 → at ≡ get_or ps i at
      → chosen (slice_set xs at x) ps ≡ slice_set (chosen xs ps) i x
  replaced_told i at x l n e =
      told (slice_set xs at x) ps n
      ∙ replaced 0 xs ps i at x k.within (omega (arith, l, length_told n)) e
      ∙ ap (λ l. slice_set l i x) (sym (told xs ps n))

  pub place_told : (i at : ℕ) → i < length (chosen xs ps) → length ps ≢ 0 → at ≡ get_or ps i at → at < length xs
  place_told i at l n e = (at_within 0 (length xs) ps i at k.within (omega (arith, l, length_told n)) e).1

  pub replaced_chosen : (at : ℕ) (x : X) → AreChosen (slice_set xs at x) space ps
  replaced_chosen at x =
      let same = length-set xs at x in
      record {
        within = rw same k.within;
        room = omega (arith, same, k.room);
        counted = omega (arith, same, k.counted);
      }

  -- items more, with their places
  pub more_is : (ys : List X) → length ps ≢ 0
      → chosen (xs ++ ys) (ps ++ range_with_len (length xs) (length ys)) ≡ chosen xs ps ++ ys
  more_is ys n =
      told (xs ++ ys) (ps ++ range_with_len (length xs) (length ys))
      (λ e. n (omega (arith, e, length-append ps (range_with_len (length xs) (length ys)))))
      ∙ picked-append (xs ++ ys) ps (range_with_len (length xs) (length ys))
      ∙ ap (λ l. l ++ picked (xs ++ ys) (range_with_len (length xs) (length ys))) (stays_picked 0 xs ys ps k.within)
      ∙ ap (λ l. picked xs ps ++ l) (range_picked xs ys) ∙ ap (λ l. l ++ ys) (sym (told xs ps n))

-- ---- those that pass

module _ {X : Type 0} (test : X → Bool) (xs : List X) (ps : List ℕ) where
  pub all_within : AreWithin 0 (length xs) (range_with_len 0 (length xs))
  all_within =
      let all : 0 + length xs ≡ length xs = omega arith in
      subst (λ n. AreWithin 0 n (range_with_len 0 (length xs))) all (range_within 0 (length xs))

  pub all_picked : picked xs (range_with_len 0 (length xs)) ≡ xs
  all_picked = range_picked [] xs

  pub kept_is : AreWithin 0 (length xs) ps
      → picked xs (filter (λ p. passes test (slice_get xs p)) ps) ≡ filter test (picked xs ps)
  kept_is w = kept test 0 xs ps w

  pub kept_are : AreWithin 0 (length xs) ps
      → AreWithin 0 (length xs) (filter (λ p. passes test (slice_get xs p)) ps)
  kept_are w = kept_within (λ p. passes test (slice_get xs p)) 0 (length xs) ps w

  -- where no place is left, nothing is
  pub none_left : length ps ≡ 0 → picked xs ps ≡ []
  none_left e = by ps e
    where
      by : (qs : List ℕ) → length qs ≡ 0 → picked xs qs ≡ []
      by [] h = refl
      by (q ∷ qs) h = absurd (omega arith)

-- ---- places that are told

-- one more
pub tell_more : (ps : List ℕ) (from at : ℕ) → from ≤ at
    → (ps ++ range_with_len from (at - from)) ++ at ∷ [] ≡ ps ++ range_with_len from (at + 1 - from)
tell_more ps from at l =
    let more : at + 1 - from ≡ (at - from) + 1 = omega (arith, l) in
    let last : from + (at - from) ≡ at = omega (arith, l) in
    append_assoc ps (range_with_len from (at - from)) (at ∷ [])
    ∙ ap (λ k. ps ++ (range_with_len from (at - from) ++ k ∷ [])) (sym last)
    ∙ ap (λ l. ps ++ l) (sym (range_more from (at - from))) ∙ ap (λ n. ps ++ range_with_len from n) (sym more)

pub length_tell : (ps : List ℕ) (from at : ℕ)
    → length (ps ++ range_with_len from (at - from)) ≡ length ps + (at - from)
length_tell ps from at =
    length-append ps (range_with_len from (at - from))
    ∙ ap (λ n. length ps + n) (length-range_with_len from (at - from))

-- all, where none were
tell_none : (ps : List ℕ) (count : ℕ) → length ps ≡ 0 → ps ++ range_with_len 0 (count - 0) ≡ range_with_len 0 count
tell_none [] count e = let all : count - 0 ≡ count = omega arith in ap (range_with_len 0) all
tell_none (p ∷ ps) count e = absurd (omega arith)

module _ {X : Type 0} (xs : List X) (ps new : List ℕ) (count : ℕ) (none : length ps ≡ 0) (all : count ≡ length xs)
    (is : new ≡ ps ++ range_with_len 0 (count - 0)) where
  new_is : new ≡ range_with_len 0 (length xs)
  new_is = is ∙ tell_none ps count none ∙ ap (range_with_len 0) all

  pub all_told : picked xs new ≡ chosen xs ps
  all_told = ap (picked xs) new_is ∙ range_picked [] xs ∙ sym (whole xs ps none)

  pub all_told_within : AreWithin 0 (length xs) new
  all_told_within =
      let end : 0 + length xs ≡ length xs = omega arith in
      rw new_is (subst (λ n. AreWithin 0 n (range_with_len 0 (length xs))) end (range_within 0 (length xs)))

-- those of a block more
pub told_items : {X : Type 0} (xs ys head : List X) (ps room told new : List ℕ) (from to : ℕ) → head ≡ xs ++ ys
    → from ≡ length xs → to ≡ length head → room ≡ [] → told ≡ room ++ ps
    → new ≡ told ++ range_with_len from (to - from) → new ≡ ps ++ range_with_len (length xs) (length ys)
told_items xs ys head ps room told new from to is start end none t n =
    let count : to - from ≡ length ys = omega (arith, start, end, ap length is, length-append xs ys) in
    n ∙ ap (λ l. l ++ range_with_len from (to - from)) (t ∙ ap (λ l. l ++ ps) none)
    ∙ ap (λ k. ps ++ range_with_len from k) count ∙ ap (λ k. ps ++ range_with_len k (length ys)) start

module _ {X : Type 0} (xs ys head : List X) (space : ℕ) (ps : List ℕ) (k : AreChosen xs space ps) (is : head ≡ xs ++ ys)
    (wide : ℕ) (room : length head ≤ wide) (counted : length head < 2 ^ 32) where
  pub block_whole : AreChosen head wide []
  block_whole = record { within = tt; room = room; counted = counted }

  pub block_told : (new : List ℕ) → new ≡ ps ++ range_with_len (length xs) (length ys) → AreChosen head wide new
  block_told new n =
      let longer : length head ≡ length xs + length ys = ap length is ∙ length-append xs ys in
      record {
        within = rw n
            (rw longer
            (more_within 0 (length xs) (length xs + length ys) ps (range_with_len (length xs) (length ys)) (omega arith)
            (omega arith) k.within (range_within (length xs) (length ys))));
        room = room;
        counted = counted;
      }

-- an item more in the place of another, where no places are told
pub replaced_whole : {X : Type 0} (xs : List X) (ps : List ℕ) (i : ℕ) (x : X) → length ps ≡ 0
    → chosen (slice_set xs i x) ps ≡ slice_set (chosen xs ps) i x
replaced_whole xs ps i x none =
    whole (slice_set xs i x) ps none ∙ ap (λ l. slice_set l i x) (sym (whole xs ps none))

-- where the items up to a place are picked, and the one at it is
pub one_picked : {X : Type 0} (test : X → Bool) (xs : List X) (i : ℕ) → i < length xs
    → filter test (take i xs) ≡ take i xs → passes test (slice_get xs i) ≡ true
    → filter test (take (i + 1) xs) ≡ take (i + 1) xs
one_picked {X = X} test xs i l all is = there xs i l (λ x e. by x e (test x) (ap (passes test) (sym e) ∙ is) refl)
  where
    by : (x : X) → slice_get xs i ≡ Some x → (b : Bool) → test x ≡ true → b ≡ test x
        → filter test (take (i + 1) xs) ≡ take (i + 1) xs
    by x e true t s =
        let last : filter test (x ∷ []) ≡ x ∷ [] = rw t refl in
        ap (filter test) (took_one xs i x e) ∙ filter-append test (take i xs) (x ∷ [])
        ∙ ap (λ l. l ++ filter test (x ∷ [])) all ∙ ap (λ l. take i xs ++ l) last ∙ sym (took_one xs i x e)
    by x e false t s = absurd (let h : false ≡ true = s ∙ t in cc)
