use Rattle.std.proofs.Common.{arith}
use Rattle.std.proofs.lemmas.Bool.{not-true, not-false}
use Rattle.sm_session.specs.Endings.{Sides}
use Rattle.sm_agent_server.specs.Streams.{Around, around_by}
use Rattle.sm_agent_server.proofs.CourseLemmas.{Step, course_first, course_stops, course_more, course_cut}
use Rattle.sm_agent_server.proofs.answering.answer_stream.Goals as goal

pub loop-number-init : goal.loop-number-init
loop-number-init g c = record {
  source_later = omega arith;
  sink_later = omega arith;
  upstream_later = omega arith;
  course = course_first c.args.agent.now
      (around_by g.Q.Source g.K.Sink g.U.Upstream g.C.Clock c.args.source.now c.args.sink.now c.args.upstream.now
      c.args.clock.now) c.new-reader.result c.new-reader.ensures;
}

pub returns-in-Err-clause-stream : goal.returns-in-Err-clause-stream
returns-in-Err-clause-stream g c =
    let before : Around = around_by g.Q.Source g.K.Sink g.U.Upstream g.C.Clock c.args.source.now c.args.sink.now
    c.args.upstream.now c.args.clock.now in
    let now : Around = around_by g.Q.Source g.K.Sink g.U.Upstream g.C.Clock c.loop-number.source c.loop-number.sink
    c.loop-number.upstream c.loop-number.clock in
    let sides : Sides = record {
      left = g.Q.Source.left c.next_message.new.source;
      taken = g.K.Sink.taken c.finish.new.sink;
      source = g.Q.Source.source_faults c.next_message.new.source;
      sink = g.K.Sink.sink_faults c.finish.new.sink;
    } in
    course_stops c.args.agent.now before c.loop-number.number c.loop-number.agent now c.loop-number.reader
    c.loop-number.count c.loop-number.invariant.course c.next_message.new.reader sides c.in-Err.stop c.finish.result
    c.loop-number-test.true c.in-Err.ensures.reads c.in-Err.ensures.stops c.finish.ensures.finishes

pub returns-then-not-sent-clause-stream : goal.returns-then-not-sent-clause-stream
returns-then-not-sent-clause-stream g c =
    let before : Around = around_by g.Q.Source g.K.Sink g.U.Upstream g.C.Clock c.args.source.now c.args.sink.now
    c.args.upstream.now c.args.clock.now in
    let now : Around = around_by g.Q.Source g.K.Sink g.U.Upstream g.C.Clock c.loop-number.source c.loop-number.sink
    c.loop-number.upstream c.loop-number.clock in
    let after : Around = around_by g.Q.Source g.K.Sink g.U.Upstream g.C.Clock c.next_message.new.source
    c.answer_message-sent.new.sink c.answer_message-sent.new.upstream c.answer_message-sent.new.clock in
    let t = c.answer_message-sent.ensures.turn in
    let step : Step c.loop-number.agent c.answer_message-sent.new.agent c.loop-number.reader c.next_message.new.reader
    now after c.in-Ok.message t.0 t.1 c.answer_message-sent.result = record {
      came = t.2;
      passes = t.3;
      reads = c.in-Ok.ensures.reads;
      source = c.next_message.ensures.later;
      sink = c.answer_message-sent.ensures.sink_later;
      sends = t.4;
    } in
    course_cut c.args.agent.now before c.loop-number.number c.loop-number.agent now c.loop-number.reader
    c.loop-number.count c.loop-number.invariant.course c.answer_message-sent.new.agent c.next_message.new.reader after
    c.in-Ok.message t.0 t.1 c.answer_message-sent.result step c.saturating_add-count.result
    c.saturating_add-count.ensures c.loop-number-test.true
    (not-true c.answer_message-sent.result.whole c.if-not-sent.true)

pub loop-number-preserved : goal.loop-number-preserved
loop-number-preserved g c =
    let i = c.loop-number.invariant in
    let before : Around = around_by g.Q.Source g.K.Sink g.U.Upstream g.C.Clock c.args.source.now c.args.sink.now
    c.args.upstream.now c.args.clock.now in
    let now : Around = around_by g.Q.Source g.K.Sink g.U.Upstream g.C.Clock c.loop-number.source c.loop-number.sink
    c.loop-number.upstream c.loop-number.clock in
    let after : Around = around_by g.Q.Source g.K.Sink g.U.Upstream g.C.Clock c.next_message.new.source
    c.answer_message-sent.new.sink c.answer_message-sent.new.upstream c.answer_message-sent.new.clock in
    let t = c.answer_message-sent.ensures.turn in
    let step : Step c.loop-number.agent c.answer_message-sent.new.agent c.loop-number.reader c.next_message.new.reader
    now after c.in-Ok.message t.0 t.1 c.answer_message-sent.result = record {
      came = t.2;
      passes = t.3;
      reads = c.in-Ok.ensures.reads;
      source = c.next_message.ensures.later;
      sink = c.answer_message-sent.ensures.sink_later;
      sends = t.4;
    } in
    record {
      source_later = omega (arith, i.source_later, c.next_message.ensures.later);
      sink_later = omega (arith, i.sink_later, c.answer_message-sent.ensures.sink_later);
      upstream_later = omega (arith, i.upstream_later, t.3.later);
      course = course_more c.args.agent.now before c.loop-number.number c.loop-number.agent now c.loop-number.reader
          c.loop-number.count i.course c.answer_message-sent.new.agent c.next_message.new.reader after c.in-Ok.message
          t.0 t.1 c.answer_message-sent.result step c.saturating_add-count.result c.saturating_add-count.ensures
          (not-false c.answer_message-sent.result.whole c.if-not-sent.false);
    }
