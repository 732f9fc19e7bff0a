-- Random words from a list.
use Rattle.std.specs.Prelude.{ℕ, List, length, drop, ◌++◌, Bool, ◌||◌, nat_lt}
use Rattle.sm_io.specs.declared.calls.Calls.{Calls}
use Rattle.sm_io.specs.declared.random.Drew.{Drew}
use Rattle.sm_io.specs.declared.random.Drew.TheVariants.{Bytes, Failed, Memory}
use Rattle.sm_io.specs.Calls.{fails_next, after_call, after_fault}

-- the bytes that were drawn, those that are left, and the calls
pub record ListState : Type 0 where
  pub drawn : List ℕ
  pub rest : List ℕ
  pub calls : Calls

-- a draw of n bytes fails: it is told to, or fewer bytes are left
abbrev pub fails_draw : ListState → ℕ → Bool
fails_draw state n = fails_next state.calls || nat_lt (length state.rest) n

-- the state after a draw that gave this answer
abbrev pub after_list_draw : ListState → Drew → ListState
after_list_draw state (Bytes bytes) =
    record state { drawn = state.drawn ++ bytes; rest = drop (length bytes) state.rest; calls = after_call state.calls }
after_list_draw state Failed = record state { calls = after_fault state.calls }
after_list_draw state Memory = record state { calls = after_call state.calls }
