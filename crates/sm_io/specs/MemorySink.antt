-- A sink in memory.
use Rattle.std.specs.Prelude.{ℕ, List, ◌++◌, take}
use Rattle.sm_io.specs.declared.calls.Calls.{Calls}
use Rattle.sm_io.specs.declared.sink.Gave.{Gave}
use Rattle.sm_io.specs.declared.sink.Gave.TheVariants.{Put, Failed}
use Rattle.sm_io.specs.Calls.{after_call, after_fault}

-- the bytes that were taken, how many a put takes at most, and the calls
pub record SinkState : Type 0 where
  pub taken : List ℕ
  pub step : ℕ
  pub calls : Calls

-- the state after a put of this piece that gave this answer
abbrev pub after_put : SinkState → List ℕ → Gave → SinkState
after_put state piece (Put n) = record state { taken = state.taken ++ take n piece; calls = after_call state.calls }
after_put state piece Failed = record state { calls = after_fault state.calls }
