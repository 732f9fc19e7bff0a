-- Two texts, compared byte by byte.
use Rattle.std.proofs.Common.{◌≡◌, ◌≢◌, ℕ, ◌+◌, ◌<◌, ◌≤◌, ◌%◌, max, ◌==◌, ◌&&◌, nat_eq, Bool, true, false, List, [], ◌∷◌, length, drop, get_or, bit_or, bit_xor, refl, ap, sym, ◌∙◌, arith}
use Rattle.std.specs.Int.{bit_at}
use Rattle.std.specs.Int.Bits.{xor_self, or_zero_l}
use Rattle.std.specs.Cmp.Lexicographic.{pointwise, unequal}
use Rattle.std.proofs.lemmas.List.{drop_more}
use Rattle.std.proofs.lemmas.Nat.Bits.{bit_at_or, bit_at_xor, bit_at-zero, bit_at-lt, same_from_bits}
use Rattle.std.proofs.Math.ListN.{drop_of_length-le}
use Rattle.sm_base.specs.Texts.{same_text}
use Rattle.sm_sigv4.proofs.TestLemmas.{is_equal, is_other, test_true, and_assoc, and_true}

first_of_max : (p q : ℕ) → max p q ≡ 0 → p ≡ 0
first_of_max p q e = omega arith

second_of_max : (p q : ℕ) → max p q ≡ 0 → q ≡ 0
second_of_max p q e = omega arith

same_bits : (p q : ℕ) → p < 2 → q < 2 → (p + q) % 2 ≡ 0 → p ≡ q
same_bits p q a b e = omega arith

module _ (a b : ℕ) (e : bit_or a b ≡ 0) where
  greatest : (i : ℕ) → max (bit_at a i) (bit_at b i) ≡ 0
  greatest i = sym (bit_at_or a b i) ∙ ap (λ n. bit_at n i) e ∙ bit_at-zero i

  first_is_zero : a ≡ 0
  first_is_zero = same_from_bits a 0 (λ i. first_of_max (bit_at a i) (bit_at b i) (greatest i) ∙ sym (bit_at-zero i))

  second_is_zero : b ≡ 0
  second_is_zero = same_from_bits b 0 (λ i. second_of_max (bit_at a i) (bit_at b i) (greatest i) ∙ sym (bit_at-zero i))

xor_zero : (x y : ℕ) → bit_xor x y ≡ 0 → x ≡ y
xor_zero x y e =
    same_from_bits x y (λ i. same_bits (bit_at x i) (bit_at y i) (bit_at-lt x i) (bit_at-lt y i)
    (sym (bit_at_xor x y i) ∙ ap (λ n. bit_at n i) e ∙ bit_at-zero i))

-- nothing differs so far where nothing did and these two bytes don't
differs_by : (d x y : ℕ) (p q : Bool) → (d == 0) ≡ p → (x == y) ≡ q → (bit_or d (bit_xor x y) == 0) ≡ (p && q)
differs_by d x y true true none same =
    is_equal _ 0 (ap (λ n. bit_or n (bit_xor x y)) (test_true d 0 none) ∙ or_zero_l (bit_xor x y)
    ∙ ap (λ n. bit_xor n y) (test_true x y same) ∙ xor_self y)
differs_by d x y true false none same =
    is_other _ 0 (λ e. absurd (false_is_true (sym same ∙ is_equal x y
    (xor_zero x y (second_is_zero d (bit_xor x y) e)))))
  where
    false_is_true : false ≡ true → ⊥
    false_is_true f = absurd (cc)
differs_by d x y false q none same =
    is_other _ 0 (λ e. absurd (false_is_true (sym none ∙ is_equal d 0 (first_is_zero d (bit_xor x y) e))))
  where
    false_is_true : false ≡ true → ⊥
    false_is_true f = absurd (cc)

module _ (one other : List ℕ) (i d : ℕ) (long : length one ≡ length other)
    (was : ((d == 0) && pointwise nat_eq (drop i one) (drop i other)) ≡ pointwise nat_eq one other) where
  pub one_compared : i < length one →
      ((bit_or d (bit_xor (get_or one i 0) (get_or other i 0)) == 0)
      && pointwise nat_eq (drop (i + 1) one) (drop (i + 1) other)) ≡ pointwise nat_eq one other
  one_compared h =
      let x = get_or one i 0 in
      let y = get_or other i 0 in
      ap (λ b. b && pointwise nat_eq (drop (i + 1) one) (drop (i + 1) other))
      (differs_by d x y (d == 0) (x == y) refl refl)
      ∙ sym (and_assoc (d == 0) (x == y) (pointwise nat_eq (drop (i + 1) one) (drop (i + 1) other)))
      ∙ sym (ap (λ (t : List ℕ). (d == 0) && pointwise nat_eq t (drop i other)) (drop_more one i 0 h)
      ∙ ap (λ (t : List ℕ). (d == 0) && pointwise nat_eq (x ∷ drop (i + 1) one) t) (drop_more other i 0 (omega arith)))
      ∙ was

  pub all_compared : length one ≤ i → (d == 0) ≡ same_text one other
  unfolding same_text
  all_compared h =
      sym (and_true (d == 0))
      ∙ sym (ap (λ (t : List ℕ). (d == 0) && pointwise nat_eq t (drop i other)) (drop_of_length-le one h)
      ∙ ap (λ (t : List ℕ). (d == 0) && pointwise nat_eq [] t) (drop_of_length-le other (omega arith)))
      ∙ was

pub other_length : (one other : List ℕ) → (length one ≢ length other) → false ≡ same_text one other
unfolding same_text
other_length one other n = sym (unequal nat_eq one other n)
