-- Where a text stops being the front of a spelling.
use Rattle.std.specs.Prelude.{ℕ, ◌+◌, ◌<◌, ◌≤◌, Bool, IsTrue, List, ◌++◌, length, take}

-- some continuation of the bytes is a spelling
abbrev pub CanBecomeSpelled : (List ℕ → Bool) → List ℕ → Type 0
CanBecomeSpelled is_spelled front = (rest : List ℕ) × IsTrue (is_spelled (front ++ rest))

-- The text is no spelling, and the place is the first at which no continuation is one, or the text's length.
pub record IsFirstFault (is_spelled : List ℕ → Bool) (text : List ℕ) (place : ℕ) : Type 0 where
  pub unspelled : ¬ IsTrue (is_spelled text)
  pub within : place ≤ length text
  pub before : CanBecomeSpelled is_spelled (take place text)
  pub from_there : place < length text → ¬ CanBecomeSpelled is_spelled (take (place + 1) text)
