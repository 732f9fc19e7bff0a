-- How what is around a session shows itself.
use Rattle.sm_io.specs.declared.clock.Clock.{Ghosts as ClockGhosts}
use Rattle.sm_io.specs.declared.sink.Sink.{Ghosts as SinkGhosts}
use Rattle.sm_io.specs.declared.source.Source.{Ghosts as SourceGhosts}
use Rattle.sm_io.specs.declared.random.Words.{Ghosts as WordsGhosts}
use Rattle.sm_account.specs.SeatTraces.{History}
use Rattle.sm_session.specs.Endings.{Sides}
use Rattle.sm_session.specs.Sessions.{Around, LocalState}

-- the two sides of a connection
abbrev pub sides_by : {K : Type 0} → SourceGhosts K → SinkGhosts K → K → Sides
sides_by source sink conn = record {
  left = source.left conn;
  taken = sink.taken conn;
  source = source.source_faults conn;
  sink = sink.sink_faults conn;
}

-- the local state of a seat that has seen this history, with its clock and its random source
abbrev pub local_state_by : {C W : Type 0} → ClockGhosts C → WordsGhosts W → History → C → W → LocalState
local_state_by clocks sources seen clock words = record {
  seen = seen;
  readings = clocks.readings clock;
  drawn = sources.drawn words;
  random = sources.faults words;
}

-- both
abbrev pub around_by : {K C W : Type 0} → SourceGhosts K → SinkGhosts K → ClockGhosts C → WordsGhosts W → History → K
    → C → W → Around
around_by source sink clocks sources seen conn clock words = record {
  sides = sides_by source sink conn;
  own = local_state_by clocks sources seen clock words;
}
