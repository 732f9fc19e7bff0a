use Rattle.std.proofs.Common.{◌≤◌}
use Rattle.sm_server.proofs.PutLemmas.{Put}
use Rattle.sm_server.proofs.shipping.put_frames.Given as goal

-- as many frames as the number says have been written, and their bytes counted
abbrev pub invariant-loop-frame : goal.invariant-loop-frame
invariant-loop-frame g l = record {
  later : g.K.Sink.sink_faults l.initial.sink ≤ g.K.Sink.sink_faults l.sink;
  put : Put l.frames l.frame-index l.count (g.K.Sink.taken l.initial.sink) (g.K.Sink.taken l.sink);
}
