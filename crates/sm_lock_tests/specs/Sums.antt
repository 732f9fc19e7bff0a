use Rattle.std.specs.Prelude.{ℕ, ◌+◌, List, [], ◌∷◌}

-- the sum of the numbers that were added
abbrev pub sum_of : List (ℕ × ℕ) → ℕ
sum_of [] = 0
sum_of (x ∷ xs) = x.1 + sum_of xs
