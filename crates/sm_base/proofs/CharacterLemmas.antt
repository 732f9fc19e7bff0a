-- Characters of UTF-8, byte by byte.
use Rattle.std.proofs.Common.{◌≡◌, ◌≢◌, ℕ, ◌+◌, ◌-◌, ◌*◌, ◌/◌, ◌%◌, ◌<◌, ◌≤◌, true, List, [], ◌∷◌, Some, None, ◌⊎◌, inl, inr, refl, ◌∙◌, arith}
use Rattle.std.proofs.lemmas.Bool.{cases_lt, cases_eq, cases_order, and_from, le-leb, lt-ltb, le-ltb}
use Rattle.std.proofs.lemmas.Bool.Decides.{nat_tests}
use Rattle.std.specs.Int.{is_in_range}
use lib.Utf8.{encode, scalar, low_scalar}
use Rattle.sm_base.specs.declared.characters.Awaited.TheVariants.{Character, One, Two, Three}
use Rattle.sm_base.specs.Characters.{first_byte}

pub in_range : (low high b : ℕ) → low ≤ b → b ≤ high → is_in_range low high b ≡ true
in_range low high b above below = grind (arith, nat_tests)

-- what comes after a first byte, by its kind
pub first_ascii : (b : ℕ) → b < 128 → first_byte b ≡ Some Character
first_ascii b small = grind (arith, nat_tests)

pub first_two : (b : ℕ) → 194 ≤ b → b ≤ 223 → first_byte b ≡ Some One
first_two b low high = grind (arith, nat_tests)

pub first_three : (b : ℕ) → 225 ≤ b → b ≤ 239 → b ≢ 237 → first_byte b ≡ Some Two
first_three b low high other = grind (arith, nat_tests)

pub first_four : (b : ℕ) → 241 ≤ b → b ≤ 243 → first_byte b ≡ Some Three
first_four b low high = grind (arith, nat_tests)

first_none : (b : ℕ) → (128 ≤ b) × (b ≤ 193) ⊎ (245 ≤ b) → first_byte b ≡ None
first_none b (inl middle) = grind (arith, nat_tests)
first_none b (inr high) = grind (arith, nat_tests)

pub data FirstByte (b : ℕ) : Type 0 where
  ascii : b < 128 → FirstByte b
  of_two : 194 ≤ b → b ≤ 223 → FirstByte b
  of_three : 225 ≤ b → b ≤ 239 → b ≢ 237 → FirstByte b
  of_four : 241 ≤ b → b ≤ 243 → FirstByte b
  is_e0 : b ≡ 224 → FirstByte b
  is_ed : b ≡ 237 → FirstByte b
  is_f0 : b ≡ 240 → FirstByte b
  is_f4 : b ≡ 244 → FirstByte b
  no_first : first_byte b ≡ None → FirstByte b

pub first_byte_of : (b : ℕ) → FirstByte b
first_byte_of b = elim (cases_lt b 128) [
  | inl small ↦ ascii small
  | inr past_ascii ↦ elim (cases_lt b 194) [
    | inl low ↦ no_first (first_none b (inl (past_ascii, omega arith)))
    | inr past_tails ↦ elim (cases_lt b 224) [
      | inl two ↦ of_two past_tails (omega arith)
      | inr past_two ↦ elim (cases_lt b 240) [
        | inl three ↦ elim (cases_eq b 224) [
          | inl e0 ↦ is_e0 e0
          | inr not_e0 ↦ elim (cases_eq b 237) [
            | inl ed ↦ is_ed ed
            | inr not_ed ↦ of_three (omega arith) (omega arith) not_ed
          ]
        ]
        | inr past_three ↦ elim (cases_lt b 245) [
          | inl four ↦ elim (cases_eq b 240) [
            | inl f0 ↦ is_f0 f0
            | inr not_f0 ↦ elim (cases_eq b 244) [
              | inl f4 ↦ is_f4 f4
              | inr not_f4 ↦ of_four (omega arith) (omega arith)
            ]
          ]
          | inr past_four ↦ no_first (first_none b (inr past_four))
        ]
      ]
    ]
  ]
]

-- the bytes of a character, by how many there are
pub encode_one : (c : ℕ) → c < 128 → encode c ≡ c ∷ []
unfolding encode
encode_one c small = rw (lt-ltb c 128 small) refl

pub encode_two : (c : ℕ) → 128 ≤ c → c < 2048 → encode c ≡ (192 + c / 64) ∷ (128 + c % 64) ∷ []
unfolding encode
encode_two c low high = rw (le-ltb c 128 low, lt-ltb c 2048 high) refl

pub encode_three : (c : ℕ) → 2048 ≤ c → c < 65536 → encode c ≡ (224 + c / 4096) ∷ (128 + c / 64 % 64) ∷ (128 + c % 64)
    ∷ []
unfolding encode
encode_three c low high = rw (le-ltb c 128 (omega arith), le-ltb c 2048 low, lt-ltb c 65536 high) refl

pub encode_four : (c : ℕ) → 65536 ≤ c → encode c ≡ (240 + c / 262144) ∷ (128 + c / 4096 % 64) ∷ (128 + c / 64 % 64)
    ∷ (128 + c % 64) ∷ []
unfolding encode
encode_four c low = rw (le-ltb c 128 (omega arith), le-ltb c 2048 (omega arith), le-ltb c 65536 low) refl

-- the first byte of a character, and its second, are of a kind
pub two_fits : (c : ℕ) → 128 ≤ c → c < 2048 → (194 ≤ 192 + c / 64) × (192 + c / 64 ≤ 223)
two_fits c low high = (omega arith, omega arith)

pub tail_fits : (n : ℕ) → (128 ≤ 128 + n % 64) × (128 + n % 64 ≤ 191)
tail_fits n = (omega arith, omega arith)

pub e0_fits : (c : ℕ) → 2048 ≤ c → c < 4096 → (224 + c / 4096 ≡ 224) × (160 ≤ 128 + c / 64 % 64)
e0_fits c low high = (omega arith, omega arith)

pub ed_fits : (c : ℕ) → 53248 ≤ c → c < 55296 → (224 + c / 4096 ≡ 237) × (128 + c / 64 % 64 ≤ 159)
ed_fits c low high = (omega arith, omega arith)

pub f0_fits : (c : ℕ) → 65536 ≤ c → c < 262144 → (240 + c / 262144 ≡ 240) × (144 ≤ 128 + c / 4096 % 64)
f0_fits c low high = (omega arith, omega arith)

pub f4_fits : (c : ℕ) → 1048576 ≤ c → c < 1114112 → (240 + c / 262144 ≡ 244) × (128 + c / 4096 % 64 ≤ 143)
f4_fits c low high = (omega arith, omega arith)

-- a character of given bits
scalar_high : (c : ℕ) → 57344 ≤ c → c < 1114112 → scalar c ≡ true
scalar_high c low high = rw (le-ltb c 55296 (omega arith)) (and_from _ _ (le-leb 57344 c low) (lt-ltb c 1114112 high))

abbrev pub HasBytes : List ℕ → Type 0
HasBytes bytes = (c : ℕ) × (scalar c ≡ true) × (encode c ≡ bytes)

pub one_char : (b : ℕ) → b < 128 → HasBytes (b ∷ [])
one_char b small = (b, low_scalar b (omega arith), encode_one b small)

pub two_char : (x y : ℕ) → 194 ≤ x → x ≤ 223 → 128 ≤ y → y ≤ 191 → HasBytes (x ∷ y ∷ [])
two_char x y x_low x_high y_low y_high =
    let c : ℕ = (x - 192) * 64 + (y - 128) in
    let first : 192 + c / 64 ≡ x = omega arith in
    let second : 128 + c % 64 ≡ y = omega arith in
    (c, low_scalar c (omega arith), encode_two c (omega arith) (omega arith) ∙ rw (first, second) refl)

pub three_char : (x y z : ℕ) → 224 ≤ x → x ≤ 239 → 128 ≤ y → y ≤ 191 → 128 ≤ z → z ≤ 191
    → (225 ≤ x) ⊎ (160 ≤ y) → (x ≢ 237) ⊎ (y ≤ 159) → HasBytes (x ∷ y ∷ z ∷ [])
three_char x y z x_low x_high y_low y_high z_low z_high not_short no_surrogate =
    let c : ℕ = (x - 224) * 4096 + (y - 128) * 64 + (z - 128) in
    let first : 224 + c / 4096 ≡ x = omega arith in
    let second : 128 + c / 64 % 64 ≡ y = omega arith in
    let third : 128 + c % 64 ≡ z = omega arith in
    let long : 2048 ≤ c = elim not_short [ inl beyond ↦ omega arith | inr high ↦ omega arith ] in
    (c, is_scalar no_surrogate, encode_three c long (omega arith) ∙ rw (first, second, third) refl)
  where
    bits : ℕ
    bits = (x - 224) * 4096 + (y - 128) * 64 + (z - 128)

    is_scalar : (x ≢ 237) ⊎ (y ≤ 159) → scalar bits ≡ true
    is_scalar (inr low) = elim (cases_lt x 238)
        [ inl below ↦ low_scalar bits (omega arith) | inr above ↦ scalar_high bits (omega arith) (omega arith) ]
    is_scalar (inl other) = elim (cases_order x 237) [
      | inl same ↦ absurd (other same)
      | inr apart ↦ elim apart [
        | inl below ↦ low_scalar bits (omega arith)
        | inr above ↦ scalar_high bits (omega arith)
            (omega arith)
      ]
    ]

pub four_char : (x y z w : ℕ) → 240 ≤ x → x ≤ 244 → 128 ≤ y → y ≤ 191 → 128 ≤ z → z ≤ 191 → 128 ≤ w → w ≤ 191
    → (241 ≤ x) ⊎ (144 ≤ y) → (x ≤ 243) ⊎ (y ≤ 143) → HasBytes (x ∷ y ∷ z ∷ w ∷ [])
four_char x y z w x_low x_high y_low y_high z_low z_high w_low w_high not_short not_long =
    let c : ℕ = (x - 240) * 262144 + (y - 128) * 4096 + (z - 128) * 64 + (w - 128) in
    let first : 240 + c / 262144 ≡ x = omega arith in
    let second : 128 + c / 4096 % 64 ≡ y = omega arith in
    let third : 128 + c / 64 % 64 ≡ z = omega arith in
    let fourth : 128 + c % 64 ≡ w = omega arith in
    let long : 65536 ≤ c = elim not_short [ inl beyond ↦ omega arith | inr high ↦ omega arith ] in
    let below : c < 1114112 = elim not_long [ inl before ↦ omega arith | inr low ↦ omega arith ] in
    (c, scalar_high c (omega arith) below, encode_four c long ∙ rw (first, second, third, fourth) refl)
