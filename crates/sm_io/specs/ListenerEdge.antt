-- What the adapter over a listener shows of itself.
use Rattle.std.specs.Prelude.{ℕ}
use Rattle.sm_io.specs.declared.listener_edge.ListenerEdge.{ListenerEdge}

-- how often an accept failed
abbrev pub accept_faults : {L : Type 0} → ListenerEdge L → ℕ
accept_faults edge = edge.faults
