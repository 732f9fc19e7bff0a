-- The digits of a signature.
use Rattle.std.proofs.Common.{◌≡◌, ℕ, zero, suc, ◌+◌, ◌*◌, ◌/◌, ◌%◌, ◌<◌, ◌==◌, ◌&&◌, nat_lt, nat_le, Bool, true, false, List, [], ◌∷◌, ◌++◌, length, slice_index, refl, ap, ◌∙◌, arith}
use Rattle.std.specs.List.{list_all}
use Rattle.std.specs.Int.{w32, to_be_bytes, byte_at, bytes_high_first}
use Rattle.std.proofs.lemmas.Bool.Decides.{nat_tests}
use Rattle.sha2.specs.Sha256.{sha256, digest_bytes, final_hash, initial_hash_256}
use Rattle.sha2.proofs.Facts256.{length-sha256}
use Rattle.hex.specs.Hex.{encode_with, lower_digits}
use Rattle.hex.proofs.HexLemmas.{length-encode_with}
use Rattle.sm_http.specs.Messages.{Message}
use Rattle.sm_sigv4.specs.declared.scope.Scope.{Scope}
use Rattle.sm_sigv4.specs.Hmac.{hmac}
use Rattle.sm_sigv4.specs.Authorizations.{is_lower_digit, is_signature}
use Rattle.sm_sigv4.specs.Signatures.{signature}
use Rattle.sm_sigv4.proofs.TestLemmas.{and_left, and_right, and_both, test_true}

-- bytes
abbrev are_bytes : List ℕ → Bool
are_bytes bytes = list_all (λ b. nat_lt b 256) bytes

below : (a b : ℕ) → a < b → nat_lt a b ≡ true
below a b h = grind (arith, nat_tests)

below_from : (a b : ℕ) → nat_lt a b ≡ true → a < b
below_from a b h = grind (arith, nat_tests)

are_bytes_append : (one other : List ℕ) → are_bytes one ≡ true → are_bytes other ≡ true → are_bytes (one ++ other) ≡
    true
are_bytes_append [] other h k = k
are_bytes_append (b ∷ one) other h k =
    and_both (nat_lt b 256) (are_bytes (one ++ other)) (and_left (nat_lt b 256) (are_bytes one) h)
    (are_bytes_append one other (and_right (nat_lt b 256) (are_bytes one) h) k)

byte_is_small : (n x : ℕ) → byte_at n x < 256
byte_is_small zero x = omega arith
byte_is_small (suc n) x = omega arith

high_first_is_bytes : (n x : ℕ) → are_bytes (bytes_high_first n x) ≡ true
high_first_is_bytes zero x = refl
high_first_is_bytes (suc n) x =
    and_both (nat_lt (byte_at n x) 256) (are_bytes (bytes_high_first n x)) (below (byte_at n x) 256 (byte_is_small n x))
    (high_first_is_bytes n x)

word_is_bytes : (x : ℕ) → are_bytes (to_be_bytes w32 x) ≡ true
word_is_bytes x = high_first_is_bytes 4 x

digest_is_bytes : (h : List ℕ) (n : ℕ) → are_bytes (digest_bytes h n) ≡ true
unfolding digest_bytes
digest_is_bytes h zero = refl
digest_is_bytes h (suc n) =
    are_bytes_append (digest_bytes h n) (to_be_bytes w32 (slice_index h n)) (digest_is_bytes h n)
    (word_is_bytes (slice_index h n))

sha256_is_bytes : (text : List ℕ) → are_bytes (sha256 text) ≡ true
unfolding sha256
sha256_is_bytes text = digest_is_bytes (final_hash initial_hash_256 text) 8

-- the first n digits are lower-case digits
are_lower : ℕ → Bool
are_lower zero = true
are_lower (suc n) = are_lower n && is_lower_digit (slice_index lower_digits n)

sixteen_are_lower : are_lower 16 ≡ true
unfolding are_lower is_lower_digit
sixteen_are_lower = refl

digit_by : (n d : ℕ) (b : Bool) → (d == n) ≡ b → d < n + 1 → is_lower_digit (slice_index lower_digits n) ≡ true
    → (d < n → is_lower_digit (slice_index lower_digits d) ≡ true) → is_lower_digit (slice_index lower_digits d) ≡ true
digit_by n d true is h here below = ap (λ i. is_lower_digit (slice_index lower_digits i)) (test_true d n is) ∙ here
digit_by n d false is h here below = below (grind (arith, nat_tests))

digit_is_lower : (n d : ℕ) → are_lower n ≡ true → d < n → is_lower_digit (slice_index lower_digits d) ≡ true
unfolding are_lower
digit_is_lower zero d all h = absurd (omega arith)
digit_is_lower (suc n) d all h =
    digit_by n d (d == n) refl (omega arith)
    (and_right (are_lower n) (is_lower_digit (slice_index lower_digits n)) all)
    (digit_is_lower n d (and_left (are_lower n) (is_lower_digit (slice_index lower_digits n)) all))

high_digit : (b : ℕ) → b < 256 → b / 16 < 16
high_digit b h = omega arith

low_digit : (b : ℕ) → b % 16 < 16
low_digit b = omega arith

encoded_is_lower : (bytes : List ℕ) → are_bytes bytes ≡ true → list_all is_lower_digit
    (encode_with lower_digits bytes) ≡ true
unfolding encode_with
encoded_is_lower [] h = refl
encoded_is_lower (b ∷ bytes) h =
    and_both (is_lower_digit (slice_index lower_digits (b / 16)))
    (is_lower_digit (slice_index lower_digits (b % 16)) && list_all is_lower_digit (encode_with lower_digits bytes))
    (digit_is_lower 16 (b / 16) sixteen_are_lower
    (high_digit b (below_from b 256 (and_left (nat_lt b 256) (are_bytes bytes) h))))
    (and_both (is_lower_digit (slice_index lower_digits (b % 16)))
    (list_all is_lower_digit (encode_with lower_digits bytes))
    (digit_is_lower 16 (b % 16) sixteen_are_lower (low_digit b))
    (encoded_is_lower bytes (and_right (nat_lt b 256) (are_bytes bytes) h)))

within : (n : ℕ) → n ≡ 64 → (nat_le 64 n && nat_le n 64) ≡ true
within n e = ap (λ k. nat_le 64 k && nat_le k 64) e

digest_is_signature : (text : List ℕ) → is_signature (encode_with lower_digits (sha256 text)) ≡ true
digest_is_signature text =
    let digits = encode_with lower_digits (sha256 text) in
    and_both (nat_le 64 (length digits) && nat_le (length digits) 64) (list_all is_lower_digit digits)
    (within (length digits) (length-encode_with lower_digits (sha256 text) ∙ ap (λ n. 2 * n) (length-sha256 text)))
    (encoded_is_lower (sha256 text) (sha256_is_bytes text))

pub signature_is_signature : (secret : List ℕ) (scope : Scope) (moment : List ℕ) (message : Message) (names : List ℕ)
    → is_signature (signature secret scope moment message names) ≡ true
unfolding signature hmac
signature_is_signature secret scope moment message names = digest_is_signature _
