use Rattle.std.proofs.Common.{refl, arith}
use Rattle.sm_server.specs.Ships.{shipped_bytes}
use Rattle.sm_server.proofs.PutLemmas.{put_all_frames, put_first, put_more, put_stops, shippable_at}
use Rattle.sm_server.proofs.shipping.put_frames.Goals as goal

pub loop-frame-init : goal.loop-frame-init
loop-frame-init g c = record {
  later = omega arith;
  put = put_first c.args.frames.now (g.K.Sink.taken c.args.sink.now);
}

pub put_frame-requires : goal.put_frame-requires
put_frame-requires g c =
    shippable_at c.args.frames.now c.loop-frame.frame-index c.frame-item.result c.requires c.loop-frame-test.true
    c.frame-item.is

pub loop-frame-preserved : goal.loop-frame-preserved
loop-frame-preserved g c = record {
  later = omega (arith, c.loop-frame.invariant.later, c.put_frame.ensures.later);
  put = put_more c.args.frames.now c.loop-frame.frame-index c.loop-frame.count (g.K.Sink.taken c.args.sink.now)
      (g.K.Sink.taken c.loop-frame.sink) c.loop-frame.invariant.put c.frame-item.result c.loop-frame-test.true
      c.frame-item.is c.put_frame.new.count (g.K.Sink.taken c.put_frame.new.sink)
      (g.K.Sink.sink_faults c.loop-frame.sink) (g.K.Sink.sink_faults c.put_frame.new.sink) c.in-None.ensures.puts;
}

pub returns-in-Some-clause-puts : goal.returns-in-Some-clause-puts
returns-in-Some-clause-puts g c =
    put_stops c.args.frames.now c.loop-frame.frame-index c.loop-frame.count (g.K.Sink.taken c.args.sink.now)
    (g.K.Sink.taken c.loop-frame.sink) c.loop-frame.invariant.put c.frame-item.result c.loop-frame-test.true
    c.frame-item.is c.in-Some.status c.put_frame.new.count (g.K.Sink.taken c.put_frame.new.sink)
    (g.K.Sink.sink_faults c.args.sink.now) (g.K.Sink.sink_faults c.loop-frame.sink)
    (g.K.Sink.sink_faults c.put_frame.new.sink) c.in-Some.ensures.puts c.loop-frame.invariant.later

pub returns-clause-puts : goal.returns-clause-puts
returns-clause-puts g c = (
  shipped_bytes c.args.frames.now,
  put_all_frames c.args.frames.now c.loop-frame.frame-index c.loop-frame.count (g.K.Sink.taken c.args.sink.now)
      (g.K.Sink.taken c.loop-frame.sink) c.loop-frame.invariant.put c.loop-frame-test.false,
  refl,
)
