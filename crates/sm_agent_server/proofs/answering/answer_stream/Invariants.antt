use Rattle.std.proofs.Common.{◌≤◌}
use Rattle.sm_agent_server.specs.Streams.{around_by}
use Rattle.sm_agent_server.proofs.CourseLemmas.{Course}
use Rattle.sm_agent_server.proofs.answering.answer_stream.Given as goal

-- as many messages as the number says have been answered
abbrev pub invariant-loop-number : goal.invariant-loop-number
invariant-loop-number g l = record {
  source_later : g.Q.Source.source_faults l.initial.source ≤ g.Q.Source.source_faults l.source;
  sink_later : g.K.Sink.sink_faults l.initial.sink ≤ g.K.Sink.sink_faults l.sink;
  upstream_later : g.U.Upstream.faults l.initial.upstream ≤ g.U.Upstream.faults l.upstream;
  course : Course l.initial.agent
      (around_by g.Q.Source g.K.Sink g.U.Upstream g.C.Clock l.initial.source l.initial.sink l.initial.upstream
      l.initial.clock)
      l.number l.agent
      (around_by g.Q.Source g.K.Sink g.U.Upstream g.C.Clock l.source l.sink l.upstream l.clock) l.reader l.count;
}
