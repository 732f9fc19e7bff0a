-- What the outside of a run tells, and what passes between a run and the outside.
use Rattle.std.specs.Prelude.{◌≡◌, ◌≤◌, ℕ, List, Option}
use Rattle.std.specs.Io.KnownBytes.{append_known}
use Rattle.sm_io.specs.declared.clock.Clock.{Ghosts as ClockGhosts}
use Rattle.sm_io.specs.declared.sink.Sink.{Ghosts as SinkGhosts}
use Rattle.sm_io.specs.declared.source.Source.{Ghosts as SourceGhosts}
use Rattle.sm_io.specs.declared.random.Words.{Ghosts as WordsGhosts}
use Rattle.sm_rotator.specs.declared.rotator.Rotator.{Ghosts as RotatorGhosts}
use Rattle.sm_session.specs.Endings.{Sides}
use Rattle.sm_session.specs.Told.{Told, Growth}

-- how often those of the outside that can fail have failed
pub record Counts : Type 0 where
  pub source : ℕ
  pub sink : ℕ
  pub disk : ℕ
  pub random : ℕ
  pub rotator : ℕ

-- no count fell
pub record NoCountFell (before after : Counts) : Type 0 where
  pub source : before.source ≤ after.source
  pub sink : before.sink ≤ after.sink
  pub disk : before.disk ≤ after.disk
  pub random : before.random ≤ after.random
  pub rotator : before.rotator ≤ after.rotator

-- what the source has left, what the sink took, what the clock and the random source told, and the counts of faults
pub record Outside : Type 0 where
  pub left : Option (List ℕ)
  pub taken : Option (List ℕ)
  pub readings : Option (List ℕ)
  pub drawn : Option (List ℕ)
  pub counts : Counts

-- how the outside shows itself, with a disk that has failed so often
abbrev pub outside_by : {Q K C W R : Type 0} → SourceGhosts Q → SinkGhosts K → ClockGhosts C → WordsGhosts W
    → RotatorGhosts R → Q → K → ℕ → C → W → R → Outside
outside_by sources sinks clocks words rotators source sink disk clock random rotator = record {
  left = sources.left source;
  taken = sinks.taken sink;
  readings = clocks.readings clock;
  drawn = words.drawn random;
  counts = record {
    source = sources.source_faults source;
    sink = sinks.sink_faults sink;
    disk = disk;
    random = words.faults random;
    rotator = rotators.faults rotator;
  };
}

-- the same, where this is left of a source and this has the sink taken, and they have failed so often
abbrev pub outside_inside : {C W R : Type 0} → Option (List ℕ) → Option (List ℕ) → ℕ → ℕ → ClockGhosts C
    → WordsGhosts W → RotatorGhosts R → ℕ → C → W → R → Outside
outside_inside left taken source sink clocks words rotators disk clock random rotator = record {
  left = left;
  taken = taken;
  readings = clocks.readings clock;
  drawn = words.drawn random;
  counts = record {
    source = source;
    sink = sink;
    disk = disk;
    random = words.faults random;
    rotator = rotators.faults rotator;
  };
}

-- the same, where this was drawn of a random source that has failed so often, and a rotator so often
abbrev pub outside_reading : {Q K C : Type 0} → Option (List ℕ) → ℕ → ℕ → SourceGhosts Q → SinkGhosts K → ClockGhosts C
    → Q → K → ℕ → C → Outside
outside_reading drawn random rotator sources sinks clocks source sink disk clock = record {
  left = sources.left source;
  taken = sinks.taken sink;
  readings = clocks.readings clock;
  drawn = drawn;
  counts = record {
    source = sources.source_faults source;
    sink = sinks.sink_faults sink;
    disk = disk;
    random = random;
    rotator = rotator;
  };
}

-- the same, where this is left of a source that has failed so often
abbrev pub outside_beside : {K C W R : Type 0} → Option (List ℕ) → ℕ → SinkGhosts K → ClockGhosts C → WordsGhosts W
    → RotatorGhosts R → K → ℕ → C → W → R → Outside
outside_beside left source sinks clocks words rotators sink disk clock random rotator =
    outside_inside left (sinks.taken sink) source (sinks.sink_faults sink) clocks words rotators disk clock random
    rotator

-- the two sides of the stream
abbrev pub sides_of : Outside → Sides
sides_of outside = record {
  left = outside.left;
  taken = outside.taken;
  source = outside.counts.source;
  sink = outside.counts.sink;
}

-- what passed: what was written and told, and how the counts grew
pub record Trace : Type 0 where
  pub written : List ℕ
  pub told : Told
  pub source : Growth
  pub sink : Growth
  pub disk : Growth
  pub random : Growth
  pub rotator : Growth

-- how a count grew from one state of the outside to another
abbrev pub growth : (Counts → ℕ) → Outside → Outside → Growth
growth count before after = record { before = count before.counts; after = count after.counts }

-- this passed between the two states of the outside
pub record Passed (before after : Outside) (trace : Trace) : Type 0 where
  pub writes : after.taken ≡ append_known before.taken trace.written
  pub clock : after.readings ≡ append_known before.readings trace.told.readings
  pub random : after.drawn ≡ append_known before.drawn trace.told.drawn
  pub source_count : trace.source ≡ growth (λ c. c.source) before after
  pub sink_count : trace.sink ≡ growth (λ c. c.sink) before after
  pub disk_count : trace.disk ≡ growth (λ c. c.disk) before after
  pub random_count : trace.random ≡ growth (λ c. c.random) before after
  pub rotator_count : trace.rotator ≡ growth (λ c. c.rotator) before after
