-- Sets of places by the bits of their words.
use Rattle.std.proofs.Common.{◌≡◌, ◌≢◌, ◌⊎◌, inl, inr, ℕ, zero, suc, ◌+◌, ◌-◌, ◌*◌, ◌/◌, ◌%◌, ◌^◌, ◌<◌, ◌≤◌, min, max, ◌==◌, ◌&&◌, ◌||◌, cond, Bool, true, false, List, [], ◌∷◌, length, refl, ap, sym, ◌∙◌, arith, bit_and, bit_or, w64, slice_set}
use Rattle.std.specs.Prelude.{slice_index, nat_le}
use Rattle.std.specs.Int.{bit_at, trailing_zeros}
use Rattle.std.proofs.lemmas.Bool.Decides.{nat_tests}
use Rattle.std.proofs.lemmas.List.{get_or-set_same, get_or-set_other}
use Rattle.std.proofs.lemmas.Nat.Bits.{bit_at_lowest, bit_at-suc, bit_at-zero, bit_at_and, bit_at_or, bit_at_set_same, bit_at_set_other, bit_at-trailing_zeros, ones_shl, bit_at-lt, bit_at_above, bit_at_cat_low, bit_at_mask_inside, bit_at_mask_below}
use Rattle.sm_policy.specs.PlaceSets.{has, IsLowestOne, IsLowest}

pub is_same : (a b : ℕ) → (a == b) ≡ true → a ≡ b
is_same a b h = grind (arith, nat_tests)

pub not_same : (a b : ℕ) → a ≢ b → (a == b) ≡ false
not_same a b h = grind (arith, nat_tests)

pub same : (a b : ℕ) → a ≡ b → (a == b) ≡ true
same a b h = grind (arith, nat_tests)

pub same_or_not : (a b : ℕ) → (a ≡ b) ⊎ (a ≢ b)
same_or_not a b =
    elim (a == b) as (λ c. (a == b) ≡ c → (a ≡ b) ⊎ (a ≢ b)) [
      | true ↦ λ e. inl (is_same a b e)
      | false ↦ λ e. inr (λ f. absurd (let g : (a == b) ≡ true = same a b f in cc))
    ] refl

-- ---- one place

-- the bit of a place in a word
abbrev pub bit_is : ℕ → ℕ → Bool
bit_is word bit = bit_at word bit == 1

of_word : (words : List ℕ) (place word : ℕ) → slice_index words (place / 64) ≡ word
    → has words place ≡ bit_is word (place % 64)
of_word words place word e = ap (λ w. bit_is w (place % 64)) e

pub put_in : (set : List ℕ) (place : ℕ) → length set ≡ 10 → place < 640 → (other : ℕ) → other < 640
    → has (slice_set set (place / 64)
    (bit_or (slice_index set (place / 64)) (1 * 2 ^ (place % 64) % 18446744073709551616))) other
    ≡ (other == place || has set other)
put_in set place long under other below =
    let word = bit_or (slice_index set (place / 64)) (1 * 2 ^ (place % 64) % 18446744073709551616) in
    let new = slice_set set (place / 64) word in
    elim (same_or_not (other / 64) (place / 64)) [
      | inl here ↦
          let is : slice_index new (other / 64) ≡ word
          = ap (slice_index new) here ∙ get_or-set_same set (place / 64) word 0 (omega (arith, long)) in
          elim (same_or_not (other % 64) (place % 64)) [
            | inl bit ↦
                of_word new other word is ∙ ap (bit_is word) bit
                ∙ ap (λ n. n == 1) (bit_at_set_same w64 (slice_index set (place / 64)) (place % 64) (omega arith))
                ∙ sym (ap (λ b. b || has set other) (same other place (omega (arith, here, bit))))
            | inr apart ↦
                of_word new other word is
                ∙ ap (λ n. n == 1)
                (bit_at_set_other w64 (slice_index set (place / 64)) (place % 64) (omega arith) (other % 64) apart)
                ∙ ap (λ k. bit_is (slice_index set k) (other % 64)) (sym here)
                ∙ sym (ap (λ b. b || has set other) (not_same other place (λ e. apart (ap (λ n. n % 64) e))))
          ]
      | inr apart ↦
          of_word new other (slice_index set (other / 64))
          (get_or-set_other set (place / 64) (other / 64) word 0 apart)
          ∙ sym (ap (λ b. b || has set other) (not_same other place (λ e. apart (ap (λ n. n / 64) e))))
    ]

-- ---- two sets

both_bits : (a b : ℕ) → a < 2 → b < 2 → (min a b == 1) ≡ (a == 1 && b == 1)
both_bits a b h k = grind (arith, nat_tests)

pub kept_in : (old other new : List ℕ)
    → ((k : ℕ) → k < 10 → slice_index new k ≡ bit_and (slice_index old k) (slice_index other k))
    → (place : ℕ) → place < 640 → has new place ≡ (has old place && has other place)
kept_in old other new is place under =
    let a = slice_index old (place / 64) in
    let b = slice_index other (place / 64) in
    of_word new place (bit_and a b) (is (place / 64) (omega arith))
    ∙ ap (λ n. n == 1) (bit_at_and a b (place % 64))
    ∙ both_bits (bit_at a (place % 64)) (bit_at b (place % 64)) (bit_at-lt a (place % 64)) (bit_at-lt b (place % 64))

-- ---- all places put on by one

-- what the words before one carry into it
abbrev pub carried : List ℕ → ℕ → ℕ
carried words k = cond (k == 0) 0 (slice_index words (k - 1) / 2 ^ 63)

-- a word put on by one bit
abbrev pub put_on : ℕ → ℕ → ℕ
put_on word carry = bit_or (word * 2 ^ 1 % 18446744073709551616) carry

bit_of_rest : (n i : ℕ) → i < 64 → bit_at (n % 18446744073709551616) i ≡ bit_at n i
bit_of_rest n i h =
    sym (bit_at_cat_low (n / 18446744073709551616) 64 (n % 18446744073709551616) i h)
    ∙ ap (λ m. bit_at m i) (omega arith)

first_bit : (word carry : ℕ) → bit_at (put_on word carry) 0 ≡ bit_at carry 0
first_bit word carry =
    bit_at_or (word * 2 ^ 1 % 18446744073709551616) carry 0
    ∙ ap (λ n. max n (bit_at carry 0))
    (bit_of_rest (word * 2 ^ 1) 0 (omega arith) ∙ bit_at_lowest (word * 2 ^ 1) ∙ even)
    ∙ no_less (bit_at carry 0)
  where
    even : word * 2 ^ 1 % 2 ≡ 0
    even = omega arith

    no_less : (n : ℕ) → max 0 n ≡ n
    no_less n = omega arith

later_bit : (word carry i : ℕ) → carry < 2 → i + 1 < 64 → bit_at (put_on word carry) (i + 1) ≡ bit_at word i
later_bit word carry i small h =
    bit_at_or (word * 2 ^ 1 % 18446744073709551616) carry (i + 1)
    ∙ ap (max (bit_at (word * 2 ^ 1 % 18446744073709551616) (i + 1))) (bit_at_above carry 1 (i + 1) small (omega arith))
    ∙ no_more (bit_at (word * 2 ^ 1 % 18446744073709551616) (i + 1))
    ∙ bit_of_rest (word * 2 ^ 1) (i + 1) h ∙ ap (bit_at (word * 2 ^ 1)) next ∙ bit_at-suc (word * 2 ^ 1) i
    ∙ ap (λ n. bit_at n i) (omega arith)
  where
    no_more : (n : ℕ) → max n 0 ≡ n
    no_more n = omega arith

    next : i + 1 ≡ suc i
    next = omega arith

module _ (old new : List ℕ) (small : (k : ℕ) → k < 10 → carried old k < 2)
    (is : (k : ℕ) → k < 10 → slice_index new k ≡ put_on (slice_index old k) (carried old k)) where
  pub none_first : has new 0 ≡ false
  none_first =
      of_word new 0 (put_on (slice_index old 0) 0) (is 0 (omega arith))
      ∙ ap (λ n. n == 1) (first_bit (slice_index old 0) 0 ∙ bit_at-zero 0)

  within_word : (place : ℕ) → place + 1 < 640 → place % 64 + 1 < 64 → has new (place + 1) ≡ has old place
  within_word place under inside =
      let k = place / 64 in
      let next : (place + 1) / 64 ≡ k = omega arith in
      of_word new (place + 1) (put_on (slice_index old k) (carried old k))
      (ap (slice_index new) next ∙ is k (omega arith))
      ∙ ap (bit_is (put_on (slice_index old k) (carried old k)))
      (let e : (place + 1) % 64 ≡ place % 64 + 1 = omega arith in e)
      ∙ ap (λ n. n == 1) (later_bit (slice_index old k) (carried old k) (place % 64) (small k (omega arith)) inside)

  next_word : (place : ℕ) → place + 1 < 640 → place % 64 ≡ 63 → has new (place + 1) ≡ has old place
  next_word place under end =
      let k = place / 64 in
      let next : (place + 1) / 64 ≡ k + 1 = omega (arith, end) in
      of_word new (place + 1) (put_on (slice_index old (k + 1)) (carried old (k + 1)))
      (ap (slice_index new) next ∙ is (k + 1) (omega (arith, end)))
      ∙ ap (bit_is (put_on (slice_index old (k + 1)) (carried old (k + 1))))
      (let e : (place + 1) % 64 ≡ 0 = omega (arith, end) in e)
      ∙ ap (λ n. n == 1) (first_bit (slice_index old (k + 1)) (carried old (k + 1)) ∙ bit_at_lowest
      (carried old (k + 1))
      ∙ ap (λ n. n % 2) (after k))
      ∙ ap (bit_is (slice_index old k)) (sym end)
    where
      after : (k : ℕ) → carried old (k + 1) ≡ slice_index old k / 2 ^ 63
      after k =
          ap (λ b. cond b 0 (slice_index old (k + 1 - 1) / 2 ^ 63))
          (not_same (k + 1) 0 (λ e. absurd (omega arith)))
          ∙ ap (λ n. slice_index old n / 2 ^ 63) (omega arith)

  pub put_later : (place : ℕ) → place + 1 < 640 → has new (place + 1) ≡ has old place
  put_later place under =
      elim (same_or_not (place % 64) 63) [
        | inl end ↦ next_word place under end
        | inr inside ↦ within_word place under (omega (arith, inside))
      ]

-- ---- the lowest place

pub lowest_one : (word : ℕ) → word ≢ 0 → word < 2 ^ 64 → IsLowestOne word (trailing_zeros w64 word)
lowest_one word some fits =
    let found = bit_at-trailing_zeros w64 word (omega (arith, some)) fits in
    record { within = found.0; one = found.1; none_before = found.2 }

module _ (set : List ℕ) (index word bit : ℕ) (under : index < 10) (before : (k : ℕ) → k < index → slice_index set k ≡ 0)
    (is : word ≡ slice_index set index) (found : IsLowestOne word bit) where
  none : (place : ℕ) → place < 64 * index + bit → has set place ≡ false
  none place h =
      elim (same_or_not (place / 64) index) [
        | inl here ↦
            of_word set place word (ap (slice_index set) here ∙ sym is)
            ∙ ap (λ n. n == 1) (found.none_before (place % 64) (omega (arith, here)))
        | inr apart ↦
            of_word set place 0 (before (place / 64) (omega (arith, apart, found.within)))
            ∙ ap (λ n. n == 1) (bit_at-zero (place % 64))
      ]

  pub lowest_here : IsLowest set (64 * index + bit)
  lowest_here =
      let word_is : (64 * index + bit) / 64 ≡ index = omega (arith, found.within) in
      let bit_here : (64 * index + bit) % 64 ≡ bit = omega (arith, found.within) in record {
        within = omega (arith, under, found.within);
        there = of_word set (64 * index + bit) word (ap (slice_index set) word_is ∙ sym is)
            ∙ ap (bit_is word) bit_here ∙ ap (λ n. n == 1) found.one;
        none_before = none;
      }

pub no_lowest : (set : List ℕ) → ((k : ℕ) → k < 10 → slice_index set k ≡ 0) → (place : ℕ) → place < 640
    → has set place ≡ false
no_lowest set zeros place under =
    of_word set place 0 (zeros (place / 64) (omega arith)) ∙ ap (λ n. n == 1) (bit_at-zero (place % 64))

-- ---- all places from one on

at_least : (a b : ℕ) → a ≤ b → nat_le a b ≡ true
at_least a b h = grind (arith, nat_tests)

less : (a b : ℕ) → b < a → nat_le a b ≡ false
less a b h = grind (arith, nat_tests)

pub ones_of : (low : ℕ) → low < 64 → (place : ℕ) → place < 64
    → bit_is (18446744073709551615 * 2 ^ low % 18446744073709551616) place ≡ nat_le low place
ones_of low h place under =
    ap (λ n. bit_is n place) (ones_shl 64 low (omega arith))
    ∙ elim (nat_le low place) as (λ b. nat_le low place ≡ b → bit_is (2 ^ 64 - 2 ^ low) place ≡ b) [
      | true ↦ λ e. ap (λ n. n == 1) (bit_at_mask_inside low 64 place (grind (arith, nat_tests)) under)
      | false ↦ λ e. ap (λ n. n == 1) (bit_at_mask_below low 64 place (grind (arith, nat_tests)))
    ] refl

pub no_ones : (low : ℕ) → 64 ≤ low → (place : ℕ) → place < 64 → bit_is 0 place ≡ nat_le low place
no_ones low h place under = ap (λ n. n == 1) (bit_at-zero place) ∙ sym (less low place (omega arith))

pub filled_from : (set : List ℕ) (low : ℕ)
    → ((k : ℕ) → k < 10 → (place : ℕ) → place < 64 → bit_is (slice_index set k) place ≡ nat_le (low - 64 * k) place)
    → (place : ℕ) → place < 640 → has set place ≡ nat_le low place
filled_from set low is place under =
    is (place / 64) (omega arith) (place % 64) (omega arith)
    ∙ elim (nat_le low place) as (λ b. nat_le low place ≡ b → nat_le (low - 64 * (place / 64)) (place % 64) ≡ b) [
      | true ↦ λ e. at_least (low - 64 * (place / 64)) (place % 64)
          (let h : low ≤ place = grind (arith, nat_tests) in omega arith)
      | false ↦ λ e. less (low - 64 * (place / 64)) (place % 64)
          (let h : place < low = grind (arith, nat_tests) in omega arith)
    ] refl
