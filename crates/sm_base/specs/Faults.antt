-- Counts of faults.
use Rattle.std.specs.Prelude.{ℕ, ◌+◌, ◌-◌, ◌^◌, ◌≤◌, min}

-- The count rose. At its last value, 2 ^ 64 - 1, it may stay there.
abbrev pub Rose : ℕ → ℕ → Type 0
Rose before now = min (before + 1) (2 ^ 64 - 1) ≤ now

-- the count did not rise
abbrev pub Steady : ℕ → ℕ → Type 0
Steady before now = Rose before now → ⊥

-- the count that is one more, or stays at its last value
abbrev pub raised : ℕ → ℕ
raised count = min (count + 1) (2 ^ 64 - 1)
