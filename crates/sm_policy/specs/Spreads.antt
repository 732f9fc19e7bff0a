-- Where each character of a text stands.
use Rattle.std.specs.Prelude.{◌≡◌, ℕ, ◌+◌, ◌/◌, ◌%◌, ◌<◌, ◌^◌, ◌==◌, ◌&&◌, ◌||◌, nat_lt, false, List, [], length, slice_index, slice_index_or}
use Rattle.sm_policy.specs.PlaceSets.{has}
use Rattle.sm_policy.specs.declared.spread.Spread.{Spread}

-- the lowest seven bits of a character, the next seven, and those behind them
abbrev pub low_part : ℕ → ℕ
low_part character = character % 128

abbrev pub middle_part : ℕ → ℕ
middle_part character = character / 128 % 128

abbrev pub high_part : ℕ → ℕ
high_part character = character / 16384

-- the places that stand in the row of a value
abbrev pub row : List (List ℕ) → ℕ → List ℕ
row rows value = slice_index_or rows value []

-- in the row of each value stand the places of the characters that have it as this part
abbrev pub AreRows : (ℕ → ℕ) → List ℕ → List (List ℕ) → Type 0
AreRows part text rows = (value place : ℕ) → value < 128 → place < 640
    → has (row rows value) place ≡ (nat_lt place (length text) && part (slice_index text place) == value)

-- one more place stands in the row of a value
abbrev pub IsNoted : List (List ℕ) → ℕ → ℕ → List (List ℕ) → Type 0
IsNoted rows value place new = (other at : ℕ) → other < 128 → at < 640
    → has (row new other) at ≡ ((other == value && at == place) || has (row rows other) at)

-- all places of the text, those of each part of its characters, and how many there are
pub record Spreads (text : List ℕ) (spread : Spread) : Type 0 where
  pub short : length text < 640
  pub as_long : spread.length ≡ length text
  pub narrow : (place : ℕ) → place < length text → slice_index text place < 2 ^ 21
  pub low_rows : AreRows low_part text spread.low
  pub middle_rows : AreRows middle_part text spread.middle
  pub high_rows : AreRows high_part text spread.high
  pub all_places : (place : ℕ) → place < 640 → has spread.all place ≡ nat_lt place (length text)

-- the places of the set at which this character stands
abbrev pub Stand : List ℕ → ℕ → List ℕ → List ℕ → Type 0
Stand text wanted set new = (place : ℕ) → place < 640
    → has new place ≡ (has set place && (nat_lt place (length text) && wanted == slice_index text place))

-- the places behind those of the set at which a character stands that the wanted one admits
pub record GoOn (text : List ℕ) (wanted : ℕ) (set new : List ℕ) : Type 0 where
  pub first : has new 0 ≡ false
  pub later : (place : ℕ) → place < length text
      → has new (place + 1) ≡ (has set place && (wanted == 63 || wanted == slice_index text place))
