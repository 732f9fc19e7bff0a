use Rattle.std.proofs.Common.{ap, refl, arith}
use Rattle.sm_replication.specs.Reading.{FrameReaderState}
use Rattle.sm_follow.specs.Disks.{disk_in}
use Rattle.sm_follow.specs.Streams.{Around, around_by}
use Rattle.sm_follow.proofs.CourseLemmas.{Place, course_first}
use Rattle.sm_follow.proofs.FollowLemmas.{ended_behind, ended_enough, ended_stopped, open_after, stands_on}
use Rattle.sm_follow.proofs.following.follow_source.Goals as goal

pub loop-number-init : goal.loop-number-init
loop-number-init g c = record {
  source_later = omega arith;
  sink_later = omega arith;
  disk_later = omega arith;
  sure = c.requires;
  going = ap (λ (r : FrameReaderState). r.ended) c.new-reader.ensures;
  course = λ state stands. (
    state,
    stands,
    course_first c.args.people.now state
        (around_by g.Q.Source g.K.Sink g.C.Clock c.args.source.now c.args.sink.now c.args.clock.now)
        c.new-reader.result c.new-reader.ensures,
  );
}

pub returns-in-Err-clause-followed : goal.returns-in-Err-clause-followed
returns-in-Err-clause-followed g c state stands =
    let i = c.loop-number.invariant in
    let old : Around = around_by g.Q.Source g.K.Sink g.C.Clock c.args.source.now c.args.sink.now c.args.clock.now in
    let at : Place = record {
      now = around_by g.Q.Source g.K.Sink g.C.Clock c.loop-number.source c.loop-number.sink c.loop-number.clock;
      reader = c.loop-number.reader;
      count = c.loop-number.count;
    } in
    let read = c.in-Err.ensures.reads in
    ended_stopped c.args.people.now state old c.loop-number.number c.loop-number.follower at
    (g.D.Disk.faults (disk_in c.args.start)) (i.course state stands) (g.Q.Source.left c.next_input.new.source)
    (g.Q.Source.source_faults c.next_input.new.source) c.next_input.new.reader i.going c.next_input.ensures.later
    c.loop-number-test.true c.in-Err.end read.0 read.1 read.2 c.in-Err.ensures.end c.in-Err.ensures.failed
    c.close.result c.close.ensures

pub returns-in-Err-step-clause-followed : goal.returns-in-Err-step-clause-followed
returns-in-Err-step-clause-followed g c state stands =
    let i = c.loop-number.invariant in
    let s = i.course state stands in
    let old : Around = around_by g.Q.Source g.K.Sink g.C.Clock c.args.source.now c.args.sink.now c.args.clock.now in
    let at : Place = record {
      now = around_by g.Q.Source g.K.Sink g.C.Clock c.loop-number.source c.loop-number.sink c.loop-number.clock;
      reader = c.loop-number.reader;
      count = c.loop-number.count;
    } in
    let after : Around = around_by g.Q.Source g.K.Sink g.C.Clock c.next_input.new.source c.step.new.sink
    c.step.new.clock in
    let read = c.in-Ok.ensures.reads in
    ended_behind c.args.people.now state old c.loop-number.number c.loop-number.follower at
    (g.D.Disk.faults (disk_in c.args.start)) s (g.Q.Source.left c.next_input.new.source)
    (g.Q.Source.source_faults c.next_input.new.source) c.next_input.new.reader i.going c.next_input.ensures.later
    c.loop-number-test.true c.in-Ok.input read.0 read.1 read.2 after.sides after.readings c.step.new.count refl refl
    c.step.ensures.sink_later c.in-Err-step.ended (c.in-Err-step.ensures.steps s.0 s.1) i.disk_later

pub loop-number-preserved : goal.loop-number-preserved
loop-number-preserved g c =
    let i = c.loop-number.invariant in
    let old : Around = around_by g.Q.Source g.K.Sink g.C.Clock c.args.source.now c.args.sink.now c.args.clock.now in
    let at : Place = record {
      now = around_by g.Q.Source g.K.Sink g.C.Clock c.loop-number.source c.loop-number.sink c.loop-number.clock;
      reader = c.loop-number.reader;
      count = c.loop-number.count;
    } in
    let after : Around = around_by g.Q.Source g.K.Sink g.C.Clock c.next_input.new.source c.step.new.sink
    c.step.new.clock in
    let read = c.in-Ok.ensures.reads in
    record {
      source_later = omega (arith, i.source_later, c.next_input.ensures.later);
      sink_later = omega (arith, i.sink_later, c.step.ensures.sink_later);
      disk_later = omega (arith, i.disk_later, c.in-Ok-step.ensures.on_later);
      sure = c.in-Ok-step.ensures.sure;
      going = open_after c.loop-number.reader c.in-Ok.input read.0 c.next_input.new.reader _ _ i.going read.1 read.2;
      course = λ state stands.
          let s = i.course state stands in
          stands_on c.args.people.now state old c.loop-number.number c.loop-number.follower at
          (g.D.Disk.faults (disk_in c.args.start)) s (g.Q.Source.left c.next_input.new.source)
          (g.Q.Source.source_faults c.next_input.new.source) c.next_input.new.reader i.going
          c.next_input.ensures.later c.loop-number-test.true c.in-Ok.input read.0 read.1 read.2 after.sides
          after.readings c.step.new.count refl refl c.step.ensures.sink_later c.in-Ok-step.next
          (c.in-Ok-step.ensures.steps s.0 s.1);
    }

pub returns-clause-followed : goal.returns-clause-followed
returns-clause-followed g c state stands =
    let old : Around = around_by g.Q.Source g.K.Sink g.C.Clock c.args.source.now c.args.sink.now c.args.clock.now in
    let at : Place = record {
      now = around_by g.Q.Source g.K.Sink g.C.Clock c.loop-number.source c.loop-number.sink c.loop-number.clock;
      reader = c.loop-number.reader;
      count = c.loop-number.count;
    } in
    ended_enough c.args.people.now state old c.loop-number.number c.loop-number.follower at
    (g.D.Disk.faults (disk_in c.args.start)) (c.loop-number.invariant.course state stands) c.close-2.result
    c.close-2.ensures (omega (arith, c.loop-number.auto.number-end, c.loop-number-test.false))
