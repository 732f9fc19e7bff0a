-- Random words that count up.
use Rattle.std.specs.Prelude.{ℕ, ◌+◌, ◌%◌, List, map, length}
use Rattle.std.specs.List.{range_with_len}
use Rattle.sm_io.specs.declared.calls.Calls.{Calls}
use Rattle.sm_io.specs.declared.random.Drew.{Drew}
use Rattle.sm_io.specs.declared.random.Drew.TheVariants.{Bytes, Failed, Memory}
use Rattle.sm_io.specs.Calls.{after_call, after_fault}

-- the first byte, how many bytes were drawn, and the calls
pub record CountState : Type 0 where
  pub first : ℕ
  pub count : ℕ
  pub calls : Calls

-- n bytes that count up from first, modulo 256
abbrev pub count_up : ℕ → ℕ → List ℕ
count_up first n = map (λ k. k % 256) (range_with_len first n)

-- the state after a draw that gave this answer
abbrev pub after_draw : CountState → Drew → CountState
after_draw state (Bytes bytes) = record state { count = state.count + length bytes; calls = after_call state.calls }
after_draw state Failed = record state { calls = after_fault state.calls }
after_draw state Memory = record state { calls = after_call state.calls }
