-- The numbers of keys.
use Rattle.std.specs.Prelude.{ℕ, ◌+◌, ◌*◌, ◌%◌, ◌^◌, List, fold}

-- the number with another byte
unfoldable pub mixed : ℕ → ℕ → ℕ
mixed sum byte = ((sum * 31) % 2 ^ 32 + byte) % 2 ^ 32

-- the number of a key
abbrev pub sum_of : List ℕ → ℕ
sum_of key = fold mixed 0 key
