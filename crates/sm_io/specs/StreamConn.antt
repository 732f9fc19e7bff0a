-- What the adapter over a stream in both directions shows of itself.
use Rattle.std.specs.Prelude.{ℕ}
use Rattle.sm_io.specs.declared.stream_conn.StreamConn.{StreamConn}

-- how often it failed when it was read, and when it was written
abbrev pub read_faults : {S : Type 0} → StreamConn S → ℕ
read_faults conn = conn.source_faults

abbrev pub write_faults : {S : Type 0} → StreamConn S → ℕ
write_faults conn = conn.sink_faults
