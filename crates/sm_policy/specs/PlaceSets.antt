-- Sets of places in a text, a bit for each.
use Rattle.std.specs.Prelude.{◌≡◌, ℕ, ◌<◌, ◌/◌, ◌%◌, ◌==◌, Bool, true, false, List, slice_index}
use Rattle.std.specs.Int.{bit_at}

-- the place is in the set
abbrev pub has : List ℕ → ℕ → Bool
has words place = bit_at (slice_index words (place / 64)) (place % 64) == 1

-- no place is in the set
abbrev pub IsEmptySet : List ℕ → Type 0
IsEmptySet words = (place : ℕ) → place < 640 → has words place ≡ false

-- the bit of the word is 1, and none before it
pub record IsLowestOne (word bit : ℕ) : Type 0 where
  pub within : bit < 64
  pub one : bit_at word bit ≡ 1
  pub none_before : (other : ℕ) → other < bit → bit_at word other ≡ 0

-- the place is in the set, and none before it
pub record IsLowest (words : List ℕ) (low : ℕ) : Type 0 where
  pub within : low < 640
  pub there : has words low ≡ true
  pub none_before : (place : ℕ) → place < low → has words place ≡ false
