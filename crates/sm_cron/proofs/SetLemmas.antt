-- Sets of numbers as numbers of bits.
use Rattle.std.proofs.Common.{◌≡◌, ℕ, zero, suc, ◌+◌, ◌-◌, ◌*◌, ◌^◌, ◌%◌, ◌<◌, ◌⊎◌, Bool, true, false, ◌||◌, if◌then◌else◌, List, [], ◌∷◌, bit_or, refl, sym, ◌∙◌, ap, inl, inr, arith, add-one}
use Rattle.std.proofs.lemmas.Bool.{cases_Bool, cases_lt, or_left, or_right}
use Rattle.std.proofs.lemmas.Nat.{one_shl, or_comm, or_shifted, or_block}
use Rattle.std.proofs.lemmas.Nat.Bits.{bit_at_or, same_from_bits, bit_at_cat_low, bit_at_cat_high, bit_at_above, bit_at-zero}
use Rattle.std.proofs.Math.Nat.{pow-suc}
use Rattle.std.specs.Int.{bit_at}
use Rattle.std.specs.List.{list_any}
use Rattle.sm_cron.specs.Sets.{set_of, set_of_all, is_step}
use Rattle.sm_cron.specs.declared.steps.Steps.{Steps}

pub set_none : (test : ℕ → Bool) → set_of test 0 ≡ 0
unfolding set_of
set_none test = refl

pub set_in : (test : ℕ → Bool) (n : ℕ) → test n ≡ true → set_of test (suc n) ≡ set_of test n + 2 ^ n
unfolding set_of
set_in test n is = rw is refl

pub set_out : (test : ℕ → Bool) (n : ℕ) → test n ≡ false → set_of test (suc n) ≡ set_of test n
unfolding set_of
set_out test n is = rw is refl

pub set_bound : (test : ℕ → Bool) (n : ℕ) → set_of test n < 2 ^ n
set_bound test zero = omega (arith, set_none test)
set_bound test (suc n) = elim (cases_Bool (test n)) [
  | inl is ↦ omega (arith, set_in test n is, set_bound test n, pow-suc 2 n)
  | inr is ↦ omega (arith, set_out test n is, set_bound test n, pow-suc 2 n)
]

-- a loop that sets the bits one after the other
pub set_more : (test : ℕ → Bool) (n : ℕ) → n < 32 → test n ≡ true
    → bit_or (set_of test n) (1 * 2 ^ n % 2 ^ 32) ≡ set_of test (n + 1)
set_more test n small is =
    rw (one_shl n 32 small, add-one n)
    (or_comm (set_of test n) (2 ^ n) ∙ by (set_bound test n) ∙ sym (set_in test n is))
  where
    by : set_of test n < 2 ^ n → bit_or (2 ^ n) (set_of test n) ≡ set_of test n + 2 ^ n
    by small =
        let one : 1 * 2 ^ n ≡ 2 ^ n = omega arith in
        let sum : bit_or (1 * 2 ^ n) (set_of test n) ≡ 1 * 2 ^ n + set_of test n = or_shifted 1 n
        (set_of test n) small in
        ap (λ m. bit_or m (set_of test n)) (sym one) ∙ sum ∙ omega arith

pub set_same : (test : ℕ → Bool) (n : ℕ) → test n ≡ false → set_of test n ≡ set_of test (n + 1)
set_same test n is = rw (add-one n) (sym (set_out test n is))

-- of two tests
pub set_both : (f g : ℕ → Bool) (n : ℕ) → bit_or (set_of f n) (set_of g n) ≡ set_of (λ k. f k || g k) n
set_both f g zero = rw (set_none f, set_none g, set_none (λ k. f k || g k)) refl
set_both f g (suc n) = by (cases_Bool (f n)) (cases_Bool (g n)) (set_both f g n) (set_bound f n) (set_bound g n)
  where
    one : (set : ℕ) → set + 2 ^ n ≡ 1 * 2 ^ n + set
    one set = omega arith

    no : (set : ℕ) → set ≡ 0 * 2 ^ n + set
    no set = omega arith

    both : ℕ → ℕ
    both m = set_of (λ k. f k || g k) m

    by : ((f n ≡ true) ⊎ (f n ≡ false)) → ((g n ≡ true) ⊎ (g n ≡ false))
        → bit_or (set_of f n) (set_of g n) ≡ set_of (λ k. f k || g k) n → set_of f n < 2 ^ n → set_of g n < 2 ^ n
        → bit_or (set_of f (suc n)) (set_of g (suc n)) ≡ set_of (λ k. f k || g k) (suc n)
    by (inl a) (inl b) so_far small low =
        rw (set_in f n a, set_in g n b, one (set_of f n), one (set_of g n))
        (or_block n 1 1 (set_of f n) (set_of g n) small low
        ∙ ap (λ m. 1 * 2 ^ n + m) so_far ∙ sym (set_in (λ k. f k || g k) n (or_left (f n) (g n) a) ∙ one _))
    by (inl a) (inr b) so_far small low =
        rw (set_in f n a, set_out g n b, one (set_of f n))
        (ap (λ m. bit_or (1 * 2 ^ n + set_of f n) m) (no (set_of g n))
        ∙ or_block n 1 0 (set_of f n) (set_of g n) small low
        ∙ ap (λ m. 1 * 2 ^ n + m) so_far ∙ sym (set_in (λ k. f k || g k) n (or_left (f n) (g n) a) ∙ one _))
    by (inr a) (inl b) so_far small low =
        rw (set_out f n a, set_in g n b, one (set_of g n))
        (ap (λ m. bit_or m (1 * 2 ^ n + set_of g n)) (no (set_of f n))
        ∙ or_block n 0 1 (set_of f n) (set_of g n) small low
        ∙ ap (λ m. 1 * 2 ^ n + m) so_far ∙ sym (set_in (λ k. f k || g k) n (or_right (f n) (g n) b) ∙ one _))
    by (inr a) (inr b) so_far small low =
        rw (set_out f n a, set_out g n b) (so_far ∙ sym (set_out (λ k. f k || g k) n (rw (a, b) refl)))

or_assoc : (a b c : ℕ) → bit_or (bit_or a b) c ≡ bit_or a (bit_or b c)
or_assoc a b c = same_from_bits _ _ (λ i.
    let left = bit_at_or (bit_or a b) c i in
    let inner = bit_at_or a b i in
    let right = bit_at_or a (bit_or b c) i in
    let other = bit_at_or b c i in
    omega arith)

-- a set with more steps put in
pub set_with : (set greatest : ℕ) (one : Steps) (more : List Steps)
    → bit_or (bit_or set (set_of (is_step one) (greatest + 1))) (set_of_all greatest more)
    ≡ bit_or set (set_of_all greatest (one ∷ more))
set_with set greatest one more =
    or_assoc set (set_of (is_step one) (greatest + 1)) (set_of_all greatest more)
    ∙ ap (bit_or set) (set_both (is_step one) (λ k. list_any (λ steps. is_step steps k) more) (greatest + 1))

pub set_first : (greatest : ℕ) (all : List Steps) → bit_or 0 (set_of_all greatest all) ≡ set_of_all greatest all
set_first greatest all = same_from_bits _ _ (λ i. bit_at_or 0 (set_of_all greatest all) i
    ∙ omega (arith, bit_at-zero i))

-- what the bits of a set say
pub bit_of_set : (test : ℕ → Bool) (n k : ℕ) → k < n → bit_at (set_of test n) k ≡ (if test k then 1 else 0)
bit_of_set test zero k within = absurd (omega arith)
bit_of_set test (suc n) k within = elim (cases_Bool (test n)) [
  | inl is ↦ elim (cases_lt k n) [
    | inl under ↦
        ap (λ s. bit_at s k) (set_in test n is ∙ top) ∙ bit_at_cat_low 1 n (set_of test n) k under
        ∙ bit_of_set test n k under
    | inr last ↦
        let same : k ≡ n = omega arith in
        rw same
        (ap (λ s. bit_at s n) (set_in test n is ∙ top)
        ∙ bit_at_cat_high 1 n (set_of test n) n (set_bound test n) (omega arith)
        ∙ ap (bit_at 1) (let e : n - n ≡ 0 = omega arith in e) ∙ sym (rw is refl))
  ]
  | inr is ↦ elim (cases_lt k n) [
    | inl under ↦ ap (λ s. bit_at s k) (set_out test n is) ∙ bit_of_set test n k under
    | inr last ↦
        let same : k ≡ n = omega arith in
        rw same
        (ap (λ s. bit_at s n) (set_out test n is) ∙ bit_at_above (set_of test n) n n (set_bound test n) (omega arith)
        ∙ sym (rw is refl))
  ]
]
  where
    top : set_of test n + 2 ^ n ≡ 1 * 2 ^ n + set_of test n
    top = omega arith

-- tests that answer alike make one set
pub set_alike : (f g : ℕ → Bool) (n : ℕ) → ((k : ℕ) → f k ≡ g k) → set_of f n ≡ set_of g n
set_alike f g zero same = set_none f ∙ sym (set_none g)
set_alike f g (suc n) same = elim (cases_Bool (f n)) [
  | inl is ↦ set_in f n is ∙ ap (λ s. s + 2 ^ n) (set_alike f g n same) ∙ sym (set_in g n (sym (same n) ∙ is))
  | inr is ↦ set_out f n is ∙ set_alike f g n same ∙ sym (set_out g n (sym (same n) ∙ is))
]

-- the set of one item
pub set_of_one : (greatest : ℕ) (one : Steps) → set_of (is_step one) (greatest + 1) ≡ set_of_all greatest (one ∷ [])
set_of_one greatest one = set_alike _ _ (greatest + 1) (λ k. or_none (is_step one k))
  where
    or_none : (b : Bool) → b ≡ (b || false)
    or_none true = refl
    or_none false = refl
