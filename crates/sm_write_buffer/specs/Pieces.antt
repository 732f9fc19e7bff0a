-- Bytes that are written over others.
use Rattle.std.specs.Prelude.{ℕ, ◌+◌, List, ◌++◌, length, take, drop}

-- bytes with a piece laid over them from a place on, and past their end
abbrev pub laid : ℕ → List ℕ → List ℕ → List ℕ
laid at piece bytes = take at bytes ++ piece ++ drop (at + length piece) bytes
