-- A source in memory.
use Rattle.std.specs.Prelude.{ℕ, List, length, drop, min, if◌then◌else◌, ◌==◌}
use Rattle.sm_io.specs.declared.calls.Calls.{Calls}
use Rattle.sm_io.specs.declared.source.Took.{Took}
use Rattle.sm_io.specs.declared.source.Took.TheVariants.{Got, End, Failed}
use Rattle.sm_io.specs.Calls.{fails_next, after_call, after_fault}

-- the bytes that are left, how many a take gives at most, and the calls
pub record SourceState : Type 0 where
  pub rest : List ℕ
  pub step : ℕ
  pub calls : Calls

-- How a take into so many bytes of room ends: told to fail, or with nothing left, or with as many bytes as the step
-- says, or all that are left or fit where these are fewer.
abbrev pub take_answer : SourceState → ℕ → Took
take_answer state room =
    if fails_next state.calls then Failed
    else (if length state.rest == 0 then End else Got (min state.step (min (length state.rest) room)))

-- the state after a take that gave this answer
abbrev pub after_take : SourceState → Took → SourceState
after_take state (Got n) = record state { rest = drop n state.rest; calls = after_call state.calls }
after_take state End = record state { calls = after_call state.calls }
after_take state Failed = record state { calls = after_fault state.calls }
