-- The words that a drill's messages are made of: those of ChaCha with 8 rounds.
-- D. J. Bernstein, "ChaCha, a variant of Salsa20" (2008).
use Rattle.std.specs.Prelude.{ℕ, List, ◌++◌, replicate}
use Rattle.std.specs.Int.{w64, to_le_bytes}
use Rattle.rand_chacha.specs.ChaCha.{key_of, word_at}

-- the seed of a number: its 8 bytes, the lowest first, and 24 zeros
abbrev pub seed_of : ℕ → List ℕ
seed_of number = to_le_bytes w64 number ++ replicate 24 0

-- word i of a number, from 0: 4 double rounds, stream 0
abbrev pub word_of : ℕ → ℕ → ℕ
word_of number i = word_at 4 (key_of (seed_of number)) 0 i
