-- What the adapters over the system's objects show of themselves.
use Rattle.std.specs.Prelude.{ℕ}
use Rattle.sm_io.specs.declared.stream_source.StreamSource.{StreamSource}
use Rattle.sm_io.specs.declared.stream_sink.StreamSink.{StreamSink}
use Rattle.sm_io.specs.declared.system_random.SystemRandom.{SystemRandom}
use Rattle.sm_io.specs.declared.system_clock.SystemClock.{SystemClock}

-- the reader that a source reads from, and how often it failed
abbrev pub reader_of : {R : Type 0} → StreamSource R → R
reader_of source = source.reader

abbrev pub read_faults : {R : Type 0} → StreamSource R → ℕ
read_faults source = source.faults

-- the writer that a sink writes to, and how often it failed
abbrev pub writer_of : {W : Type 0} → StreamSink W → W
writer_of sink = sink.writer

abbrev pub write_faults : {W : Type 0} → StreamSink W → ℕ
write_faults sink = sink.faults

-- how often a random source failed
abbrev pub draw_faults : {R : Type 0} → SystemRandom R → ℕ
draw_faults words = words.faults

-- what a clock reads where its system can't tell the time
abbrev pub last_reading : {C : Type 0} → SystemClock C → ℕ
last_reading clock = clock.last
