use Rattle.std.proofs.Common.{inl, map, refl, string_bytes}
use Rattle.sm_agent_server.specs.Streams.{around_by}
use Rattle.sm_command_line.specs.Reading.{settings_of}
use Rattle.sm_server.proofs.ReaderLemmas.{agent_ran}
use Rattle.sm_server.proofs.reader.run_agent.Goals as goal

pub returns-in-Ok-clause-ran : goal.returns-in-Ok-clause-ran
returns-in-Ok-clause-ran g c =
    agent_ran (settings_of (map string_bytes c.args.words.now)) c.answer_connection.result c.in-Ok.agent
    c.answer_connection.new.agent
    (around_by g.Q.Source g.K.Sink g.U.Upstream g.C.Clock c.args.source.now c.args.sink.now c.args.upstream.now
    c.args.clock.now)
    (around_by g.Q.Source g.K.Sink g.U.Upstream g.C.Clock c.answer_connection.new.source c.answer_connection.new.sink
    c.answer_connection.new.upstream c.answer_connection.new.clock)
    c.in-Ok.ensures c.answer_connection.ensures.ran

pub returns-in-Err-clause-ran : goal.returns-in-Err-clause-ran
returns-in-Err-clause-ran g c = inl (c.in-Err.ensures, refl)
