-- Lists of entries, each beside the number of the seat that made it.
use Rattle.std.specs.Prelude.{◌≡◌, ℕ, ◌+◌, List, [], ◌∷◌, ◌++◌, length, if◌then◌else◌, ◌==◌, nat_lt}

-- how often a number stands in a list
abbrev pub times : ℕ → List ℕ → ℕ
times n [] = 0
times n (k ∷ ks) = (if n == k then 1 else 0) + times n ks

module _ {E : Type 0} where
  -- how many entries of the list these seats made
  abbrev pub made_by : List ℕ → List (ℕ × E) → ℕ
  made_by numbers [] = 0
  made_by numbers (x ∷ xs) = times x.0 numbers + made_by numbers xs

  -- the second list is the first, and then entries of which these seats made none
  abbrev pub Grows : List ℕ → List (ℕ × E) → List (ℕ × E) → Type 0
  Grows numbers before after = (more : List (ℕ × E)) × (after ≡ before ++ more) × (made_by numbers more ≡ 0)

  -- the entries of one seat, in their order
  abbrev pub entries_of : ℕ → List (ℕ × E) → List E
  entries_of number [] = []
  entries_of number (x ∷ xs) = if number == x.0 then (x.1 ∷ entries_of number xs) else entries_of number xs

  -- the longer list, and the first of two that are equally long
  abbrev pub longer : List (ℕ × E) → List (ℕ × E) → List (ℕ × E)
  longer xs ys = if nat_lt (length xs) (length ys) then ys else xs
