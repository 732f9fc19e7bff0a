-- Texts that are cut at a mark.
use Rattle.std.specs.Prelude.{◌≡◌, ℕ, ◌<◌, ◌==◌, true, List, [], length, Option, None, Some}
use Rattle.std.specs.List.{list_any, before_first, after_first, slice_split}

-- Before and behind stand around the first such mark of a text.
pub record AreAround (mark : ℕ) (text before behind : List ℕ) : Type 0 where
  pub there : list_any (λ b. b == mark) text ≡ true
  pub before_it : before ≡ before_first (λ b. b == mark) text
  pub behind_it : behind ≡ after_first (λ b. b == mark) text
  pub shorter : length behind < length text

-- the pieces of a text between such marks; a text without one is its one piece
abbrev pub pieces : ℕ → List ℕ → List (List ℕ)
pieces mark text = slice_split (λ b. b == mark) text

-- the pieces of a text that is left, and none where none is
abbrev pub pieces_left : ℕ → Option (List ℕ) → List (List ℕ)
pieces_left mark None = []
pieces_left mark (Some text) = pieces mark text
