-- Tests and what they say.
use Rattle.std.proofs.Common.{◌≡◌, ◌≢◌, ℕ, ◌==◌, ◌&&◌, ◌||◌, not, nat_eq, Bool, true, false, List, [], ◌∷◌, refl, ap, ◌∙◌, arith}
use Rattle.std.specs.Cmp.Lexicographic.{pointwise}
use Rattle.std.proofs.lemmas.Bool.Decides.{nat_tests}
use Rattle.sm_base.specs.Texts.{same_text}

pub is_equal : (x y : ℕ) → x ≡ y → (x == y) ≡ true
is_equal x y e = grind (arith, nat_tests)

pub is_other : (x y : ℕ) → x ≢ y → (x == y) ≡ false
is_other x y e = grind (arith, nat_tests)

pub test_true : (x y : ℕ) → (x == y) ≡ true → x ≡ y
test_true x y e = grind (arith, nat_tests)

pub and_left : (a b : Bool) → (a && b) ≡ true → a ≡ true
and_left true b h = refl
and_left false b h = h

pub and_right : (a b : Bool) → (a && b) ≡ true → b ≡ true
and_right true b h = h
and_right false b h = absurd (cc)

pub and_both : (a b : Bool) → a ≡ true → b ≡ true → (a && b) ≡ true
and_both a b h k = ap (λ x. x && b) h ∙ k

pub and_assoc : (a b c : Bool) → (a && (b && c)) ≡ ((a && b) && c)
and_assoc true b c = refl
and_assoc false b c = refl

pub and_true : (a : Bool) → (a && true) ≡ a
and_true true = refl
and_true false = refl

pub and_false : (a : Bool) → (a && false) ≡ false
and_false true = refl
and_false false = refl

pub or_false : (a : Bool) → (a || false) ≡ a
or_false true = refl
or_false false = refl

pub not_true : (a : Bool) → not a ≡ true → a ≡ false
not_true true h = absurd (cc)
not_true false h = refl

-- a text is the same as itself
pub same_bytes : (text : List ℕ) → pointwise nat_eq text text ≡ true
same_bytes [] = refl
same_bytes (c ∷ text) = and_both (nat_eq c c) (pointwise nat_eq text text) (is_equal c c refl) (same_bytes text)

pub same_as_itself : (text : List ℕ) → same_text text text ≡ true
unfolding same_text
same_as_itself text = same_bytes text
