-- Items in blocks of eight.
use Rattle.std.proofs.Common.{◌≡◌, ◌≢◌, nat_eq, ℕ, zero, suc, ◌-◌, ◌*◌, ◌/◌, ◌%◌, ◌<◌, ◌≤◌, false, List, [], ◌∷◌, ◌++◌, length, map, Option, None, Some, get_or, slice_get, slice_set, refl, sym, ap, ◌∙◌, subst, arith, ⊎_elim}
use Rattle.std.proofs.lemmas.Bool.{cases_lt}
use Rattle.std.proofs.lemmas.List.{append_assoc, append-nil, length-append, length-map, length-set, map-append, map-set, set-append_left, set-append_right}
use Rattle.std.proofs.lemmas.Option.{slice_get-map, slice_get_past, slice_get_read}
use Rattle.std.specs.Option.{option_map}
use Rattle.std.specs.Cmp.Lexicographic.{pointwise}
use Rattle.sm_base.specs.Sums.{sum_of}
use Rattle.sm_base.specs.Blocks.{joined, AreFull, AreBlocks, passes}
use Rattle.sm_base.proofs.PlaceLemmas.{got_before, got_behind}
use Rattle.sm_base.proofs.SharedLemmas.{other_key}

module _ {X : Type 0} where
  -- a block more
  pub joined_more : (bs : List (List X)) (b : List X) → joined (bs ++ b ∷ []) ≡ joined bs ++ b
  joined_more [] b = append-nil b
  joined_more (c ∷ bs) b = ap (λ l. c ++ l) (joined_more bs b) ∙ sym (append_assoc c (joined bs) b)

  full_more : (bs : List (List X)) (b : List X) → AreFull bs → length b ≡ 8 → AreFull (bs ++ b ∷ [])
  full_more [] b f l = (l, tt)
  full_more (c ∷ bs) b f l = (f.0, full_more bs b f.1 l)

  length_joined : (bs : List (List X)) → AreFull bs → length (joined bs) ≡ 8 * length bs
  length_joined [] f = refl
  length_joined (b ∷ bs) f = omega (arith, f.0, length-append b (joined bs), length_joined bs f.1)

  pub block_within : (bs : List (List X)) (i : ℕ) → AreFull bs → i < length (joined bs) → i / 8 < length bs
  block_within bs i f l = omega (arith, l, length_joined bs f)

  block_full : (bs : List (List X)) (b : List X) (k : ℕ) → AreFull bs → k < length bs → b ≡ get_or bs k b → length b ≡ 8
  block_full [] b k f l e = absurd (omega arith)
  block_full (c ∷ bs) b zero f l e = ap length e ∙ f.0
  block_full (c ∷ bs) b (suc k) f l e = block_full bs b k f.1 (omega arith) e

  -- an item stands in its block
  pub got_joined : (bs : List (List X)) (b : List X) (i : ℕ) → AreFull bs → i / 8 < length bs → b ≡ get_or bs (i / 8) b
      → slice_get (joined bs) i ≡ slice_get b (i % 8)
  got_joined [] b i f l e = absurd (omega arith)
  got_joined (c ∷ bs) b i f l e =
      ⊎_elim here (behind (λ k within there. got_joined bs b k f.1 within there)) (cases_lt i 8)
    where
      here : i < 8 → slice_get (c ++ joined bs) i ≡ slice_get b (i % 8)
      here h =
          let first : i / 8 ≡ 0 = omega arith in
          let at : i % 8 ≡ i = omega arith in
          let block : b ≡ c = subst (λ k. b ≡ get_or (c ∷ bs) k b) first e in
          got_before c (joined bs) i (omega (arith, f.0, h)) ∙ ap (λ l. slice_get l i) (sym block)
          ∙ ap (slice_get b) (sym at)

      behind : ((k : ℕ) → k / 8 < length bs → b ≡ get_or bs (k / 8) b → slice_get (joined bs) k ≡ slice_get b (k % 8))
          → 8 ≤ i → slice_get (c ++ joined bs) i ≡ slice_get b (i % 8)
      behind others h =
          let next : i / 8 ≡ suc ((i - 8) / 8) = omega arith in
          let at : i % 8 ≡ (i - 8) % 8 = omega arith in
          let within : (i - 8) / 8 < length bs = omega (arith, next, l) in
          let there : b ≡ get_or bs ((i - 8) / 8) b = subst (λ k. b ≡ get_or (c ∷ bs) k b) next e in
          got_behind c (joined bs) i (omega (arith, f.0, h))
          ∙ ap (λ n. slice_get (joined bs) (i - n)) f.0
          ∙ others (i - 8) within there ∙ ap (slice_get b) (sym at)

  -- and there is none where no block is
  pub past_joined : (bs : List (List X)) (i : ℕ) → AreFull bs → length bs ≤ i / 8 → slice_get (joined bs) i ≡ None
  past_joined bs i f l = slice_get_past (joined bs) i (omega (arith, l, length_joined bs f))

  pub place_within : (bs : List (List X)) (b : List X) (i : ℕ) → AreFull bs → i / 8 < length bs
      → b ≡ get_or bs (i / 8) b → i % 8 < length b
  place_within bs b i f l e = omega (arith, block_full bs b (i / 8) f l e)

  -- another item in a block
  full_set : (bs : List (List X)) (b : List X) (k : ℕ) → AreFull bs → length b ≡ 8 → AreFull (slice_set bs k b)
  full_set [] b k f l = tt
  full_set (c ∷ bs) b zero f l = (l, f.1)
  full_set (c ∷ bs) b (suc k) f l = (f.0, full_set bs b k f.1 l)

  pub joined_set : (bs : List (List X)) (b : List X) (i : ℕ) (x : X) → AreFull bs → i / 8 < length bs
      → b ≡ get_or bs (i / 8) b → joined (slice_set bs (i / 8) (slice_set b (i % 8) x)) ≡ slice_set (joined bs) i x
  joined_set [] b i x f l e = absurd (omega arith)
  joined_set (c ∷ bs) b i x f l e =
      ⊎_elim here (behind (λ k within there. joined_set bs b k x f.1 within there)) (cases_lt i 8)
    where
      here : i < 8 → joined (slice_set (c ∷ bs) (i / 8) (slice_set b (i % 8) x)) ≡ slice_set (c ++ joined bs) i x
      here h =
          let first : i / 8 ≡ 0 = omega arith in
          let at : i % 8 ≡ i = omega arith in
          let block : b ≡ c = subst (λ k. b ≡ get_or (c ∷ bs) k b) first e in
          ap (λ k. joined (slice_set (c ∷ bs) k (slice_set b (i % 8) x))) first
          ∙ ap (λ k. slice_set b k x ++ joined bs) at ∙ ap (λ d. slice_set d i x ++ joined bs) block
          ∙ sym (set-append_left c (joined bs) i x (omega (arith, f.0, h)))

      behind : ((k : ℕ) → k / 8 < length bs → b ≡ get_or bs (k / 8) b
          → joined (slice_set bs (k / 8) (slice_set b (k % 8) x)) ≡ slice_set (joined bs) k x) → 8 ≤ i
          → joined (slice_set (c ∷ bs) (i / 8) (slice_set b (i % 8) x)) ≡ slice_set (c ++ joined bs) i x
      behind others h =
          let next : i / 8 ≡ suc ((i - 8) / 8) = omega arith in
          let at : i % 8 ≡ (i - 8) % 8 = omega arith in
          let within : (i - 8) / 8 < length bs = omega (arith, next, l) in
          let there : b ≡ get_or bs ((i - 8) / 8) b = subst (λ k. b ≡ get_or (c ∷ bs) k b) next e in
          ap (λ k. joined (slice_set (c ∷ bs) k (slice_set b (i % 8) x))) next
          ∙ ap (λ k. c ++ joined (slice_set bs ((i - 8) / 8) (slice_set b k x))) at
          ∙ ap (λ r. c ++ r) (others (i - 8) within there)
          ∙ sym (set-append_right c (joined bs) 8 i x f.0 h)

module _ {X : Type 0} (number : X → ℕ) (bs : List (List X)) (ns : List ℕ) (k : AreBlocks number bs ns) where
  -- a block more, with its numbers
  pub blocks_more : (b : List X) → length b ≡ 8 → AreBlocks number (bs ++ b ∷ []) (ns ++ map number b)
  blocks_more b l = record {
    full = full_more bs b k.full l;
    numbered = ap (λ l. l ++ map number b) k.numbered ∙ sym (map-append number (joined bs) b)
        ∙ ap (map number) (sym (joined_more bs b));
  }

  -- another item, with its number
  pub blocks_set : (b : List X) (i : ℕ) (x : X) → i < length (joined bs) → b ≡ get_or bs (i / 8) b
      → AreBlocks number (slice_set bs (i / 8) (slice_set b (i % 8) x)) (slice_set ns i (number x))
  blocks_set b i x l e =
      let within = block_within bs i k.full l in
      let eight = block_full bs b (i / 8) k.full within e in
      record {
        full = full_set bs (slice_set b (i % 8) x) (i / 8) k.full (length-set b (i % 8) x ∙ eight);
        numbered = ap (λ l. slice_set l i (number x)) k.numbered ∙ sym (map-set number (joined bs) i x)
            ∙ ap (map number) (sym (joined_set bs b i x k.full within e));
      }

  pub length_numbered : length ns ≡ length (joined bs)
  length_numbered = ap length k.numbered ∙ length-map (joined bs) number

module _ {X : Type 0} (key : X → List ℕ) (bs : List (List X)) (ns : List ℕ) (k : AreBlocks (λ x. sum_of (key x)) bs ns)
  where
    -- an item with another number has another key
    pub other_number : (i n : ℕ) (wanted : List ℕ) → i < length ns → n ≡ get_or ns i n → n ≢ sum_of wanted
        → passes (λ x. pointwise nat_eq (key x) wanted) (slice_get (joined bs) i) ≡ false
    other_number i n wanted l e other = by (slice_get (joined bs) i) refl
      where
        told : slice_get ns i ≡ Some n
        told = slice_get_read ns (length ns) i n refl l e

        by : (o : Option X) → o ≡ slice_get (joined bs) i → passes (λ x. pointwise nat_eq (key x) wanted) o ≡ false
        by None is = refl
        by (Some x) is =
            let same : Some n ≡ Some (sum_of (key x)) = sym told ∙ ap (λ l. slice_get l i) k.numbered
            ∙ slice_get-map (λ y. sum_of (key y)) (joined bs) i ∙ ap (option_map (λ y. sum_of (key y))) (sym is) in
            let number : sum_of (key x) ≡ n = cc in
            other_key (key x) wanted (λ sums. other (sym number ∙ sums))

    pub past_numbered : (i : ℕ) → length ns ≤ i → slice_get (joined bs) i ≡ None
    past_numbered i l =
        slice_get_past (joined bs) i (omega
        (arith, l, ap length k.numbered, length-map (joined bs) (λ x. sum_of (key x))))
