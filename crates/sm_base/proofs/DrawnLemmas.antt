-- Drawn tokens and ARNs are in their spellings.
use Rattle.std.proofs.Common.{◌≡◌, ℕ, zero, suc, ◌+◌, ◌<◌, Bool, true, false, ◌&&◌, if◌then◌else◌, List, [], ◌∷◌, ◌++◌, length, map, nat_le, refl, ◌∙◌, arith, length-append}
use Rattle.std.proofs.lemmas.List.{length-map}
use Rattle.std.proofs.lemmas.List.Folds.{list_all-append}
use Rattle.std.proofs.lemmas.Bool.{and_parts, and_from, le-leb, leb-true}
use Rattle.std.proofs.lemmas.Bool.Decides.{nat_tests}
use Rattle.std.specs.List.{list_all}
use Rattle.uuid.specs.Text.{by_index, hyphenated_text, hex_digit, nibble, digit_place, is_hyphen_place, hyphen, lower}
use Rattle.uuid.proofs.TextLemmas.{by_index_length, nibble_small}
use Rattle.sm_base.specs.Spelling.{is_run, is_name_byte, is_token_byte, is_region_byte, is_name, is_token, is_arn}
use Rattle.sm_base.specs.Drawn.{drawn_arn, suffix_character}

all_by_index : (test : ℕ → Bool) (n : ℕ) (f : ℕ → ℕ) → ((k : ℕ) → test (f k) ≡ true)
    → list_all test (by_index n f) ≡ true
unfolding by_index
all_by_index test zero f each = refl
all_by_index test (suc n) f each =
    list_all-append test (by_index n f) (f n ∷ [])
    ∙ and_from _ _ (all_by_index test n f each) (and_from _ _ (each n) refl)

hex_digit_is_token_byte : (digit : ℕ) → digit < 16 → is_token_byte (hex_digit lower digit) ≡ true
unfolding is_token_byte
hex_digit_is_token_byte digit small = grind (arith, nat_tests)

hyphen_or_digit : (bytes : List ℕ) (k : ℕ) (is_hyphen : Bool)
    → is_token_byte (if is_hyphen then hyphen else hex_digit lower (nibble bytes (digit_place k))) ≡ true
unfolding is_token_byte
hyphen_or_digit bytes k true = refl
hyphen_or_digit bytes k false = hex_digit_is_token_byte (nibble bytes (digit_place k))
    (nibble_small bytes (digit_place k))

pub hyphenated_is_token : (bytes : List ℕ) → is_token (hyphenated_text lower bytes) ≡ true
unfolding is_token
hyphenated_is_token bytes =
    let text : List ℕ = hyphenated_text lower bytes in
    let n : length text ≡ 36 = by_index_length 36 _ in
    and_from _ _ (and_from _ _ (le-leb 32 (length text) (omega (arith, n)))
    (le-leb (length text) 64 (omega (arith, n))))
    (all_by_index is_token_byte 36 _ (λ k. hyphen_or_digit bytes k (is_hyphen_place k)))

suffix_is_name_byte : (byte : ℕ) → is_name_byte (suffix_character byte) ≡ true
unfolding is_name_byte
suffix_is_name_byte byte = grind (arith, nat_tests)

suffix_is_all : (six : List ℕ) → list_all is_name_byte (map suffix_character six) ≡ true
suffix_is_all [] = refl
suffix_is_all (byte ∷ six) = and_from _ _ (suffix_is_name_byte byte) (suffix_is_all six)

hyphen_is_name_byte : is_name_byte 45 ≡ true
unfolding is_name_byte
hyphen_is_name_byte = refl

-- a name, a hyphen and six characters
rest_is_run : (name six : List ℕ) → is_run is_name_byte 1 512 name ≡ true → length six ≡ 6
    → is_run is_name_byte 1 519 (name ++ 45 ∷ map suffix_character six) ≡ true
rest_is_run name six named six_bytes =
    let both = and_parts (nat_le 1 (length name) && nat_le (length name) 512) (list_all is_name_byte name) named in
    let bounds = and_parts (nat_le 1 (length name)) (nat_le (length name) 512) both.0 in
    let text : List ℕ = name ++ 45 ∷ map suffix_character six in
    let n : length text ≡ length name + 7 =
    omega (arith, length-append name (45 ∷ map suffix_character six), length-map six suffix_character, six_bytes) in
    and_from _ _ (and_from _ _ (le-leb 1 (length text) (omega (arith, n)))
    (le-leb (length text) 519 (omega (arith, n, leb-true (length name) 512 bounds.1))))
    (list_all-append is_name_byte name (45 ∷ map suffix_character six)
    ∙ and_from _ _ both.1 (and_from _ _ (hyphen_is_name_byte) (suffix_is_all six)))

pub drawn_arn_is_arn : (name six : List ℕ) → is_name name ≡ true → length six ≡ 6 → is_arn (drawn_arn name six) ≡ true
unfolding is_arn is_name drawn_arn is_region_byte
drawn_arn_is_arn name six named six_bytes = rest_is_run name six named six_bytes
