-- The escapes of a value, and the text that it is.
use Rattle.std.proofs.Common.{◌≡◌, ◌≢◌, ℕ, ◌+◌, ◌<◌, ◌≤◌, ◌==◌, ◌&&◌, ◌||◌, not, Bool, true, false, cond, None, Some, List, length, drop, get_or, refl, ap, sym, ◌∙◌, arith}
use Rattle.std.proofs.lemmas.List.{drop_more}
use Rattle.std.proofs.lemmas.Bool.Decides.{nat_tests}
use Rattle.std.proofs.Math.ListN.{drop_of_length-le}
use Rattle.std.proofs.lemmas.Str.{IsUtf8-from_is_utf8, is_utf8-from_IsUtf8}
use Rattle.std.specs.Str.{IsUtf8, is_utf8}
use Rattle.sm_agent.specs.Values.{begins_with_digits, is_encoded, utf8_text}

is_percent : (b : ℕ) → b ≡ 37 → (b == 37) ≡ true
is_percent b e = grind (arith, nat_tests)

is_no_percent : (b : ℕ) → b ≢ 37 → (b == 37) ≡ false
is_no_percent b e = grind (arith, nat_tests)

or_true : (a b : Bool) → ((a || true) && b) ≡ b
or_true true b = refl
or_true false b = refl

module _ (value : List ℕ) (i : ℕ) (h : i < length value) (was : is_encoded value ≡ is_encoded (drop i value)) where
  split : is_encoded (drop i value)
      ≡ ((not (get_or value i 0 == 37) || begins_with_digits (drop (i + 1) value)) && is_encoded (drop (i + 1) value))
  split = ap is_encoded (drop_more value i 0 h)

  pub encoded_other : get_or value i 0 ≢ 37 → is_encoded value ≡ is_encoded (drop (i + 1) value)
  encoded_other other =
      was ∙ split
      ∙ ap (λ b. (not b || begins_with_digits (drop (i + 1) value)) && is_encoded (drop (i + 1) value))
      (is_no_percent (get_or value i 0) other)

  pub encoded_here : begins_with_digits (drop (i + 1) value) ≡ true → is_encoded value ≡ is_encoded (drop (i + 1) value)
  encoded_here digits =
      was ∙ split
      ∙ ap (λ b. (not (get_or value i 0 == 37) || b) && is_encoded (drop (i + 1) value)) digits
      ∙ or_true (not (get_or value i 0 == 37)) (is_encoded (drop (i + 1) value))

  pub encoded_not : get_or value i 0 ≡ 37 → begins_with_digits (drop (i + 1) value) ≡ false → is_encoded value ≡ false
  encoded_not is digits =
      was ∙ split
      ∙ ap (λ b. (not b || begins_with_digits (drop (i + 1) value)) && is_encoded (drop (i + 1) value))
      (is_percent (get_or value i 0) is)
      ∙ ap (λ b. b && is_encoded (drop (i + 1) value)) digits

pub encoded_whole : (value : List ℕ) (i : ℕ) → length value ≤ i → is_encoded value ≡ is_encoded (drop i value)
    → is_encoded value ≡ true
encoded_whole value i h was = was ∙ ap is_encoded (drop_of_length-le value h)

-- bytes that are a text
pub text_there : (bytes text : List ℕ) → IsUtf8 bytes → text ≡ bytes → Some text ≡ utf8_text bytes
text_there bytes text utf8 same =
    ap Some same ∙ sym (ap (λ b. cond b (Some bytes) None) (is_utf8-from_IsUtf8 bytes utf8))

-- and bytes that are none
pub no_text : (bytes : List ℕ) → ¬ IsUtf8 bytes → None ≡ utf8_text bytes
no_text bytes other = by (is_utf8 bytes) refl
  where
    by : (b : Bool) → b ≡ is_utf8 bytes → None ≡ cond b (Some bytes) None
    by true is = absurd (other (IsUtf8-from_is_utf8 bytes (sym is)))
    by false is = refl
