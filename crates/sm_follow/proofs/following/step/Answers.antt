use Rattle.std.proofs.Common.{inl, inr, refl}
use Rattle.sm_follow.specs.Disks.{disk_in}
use Rattle.sm_follow.specs.Steps.{Written}
use Rattle.sm_follow.proofs.StepLemmas.{ends_behind, ends_unwritten, goes_nowhere, goes_on, goes_on_unwritten}
use Rattle.sm_follow.proofs.following.step.Goals as goal

pub returns-in-None-clause-steps : goal.returns-in-None-clause-steps
returns-in-None-clause-steps g c state stands =
    let comes = c.in-On.ensures.comes in
    let before : Written = record {
      count = c.args.count.now;
      taken = g.K.Sink.taken c.args.sink.now;
      faults = g.K.Sink.sink_faults c.args.sink.now;
    } in
    let after : Written = record {
      count = c.put_output.new.count;
      taken = g.K.Sink.taken c.put_output.new.sink;
      faults = g.K.Sink.sink_faults c.put_output.new.sink;
    } in
    goes_on c.args.people.now state c.args.input.now comes.0 (g.D.Disk.faults (disk_in c.args.follower))
    (g.C.Clock.readings c.args.clock.now) (g.C.Clock.readings c.turn.new.clock) comes.1 before after c.in-On.output
    c.in-On.next (comes.2 state stands) c.in-None.ensures.puts

pub returns-in-On-clause-steps : goal.returns-in-On-clause-steps
returns-in-On-clause-steps g c state stands =
    let comes = c.in-On.ensures.comes in
    let before : Written = record {
      count = c.args.count.now;
      taken = g.K.Sink.taken c.args.sink.now;
      faults = g.K.Sink.sink_faults c.args.sink.now;
    } in
    let after : Written = record {
      count = c.put_output.new.count;
      taken = g.K.Sink.taken c.put_output.new.sink;
      faults = g.K.Sink.sink_faults c.put_output.new.sink;
    } in
    inl (goes_on_unwritten c.args.people.now state c.args.input.now comes.0
    (g.D.Disk.faults (disk_in c.args.follower)) (g.C.Clock.readings c.args.clock.now)
    (g.C.Clock.readings c.turn.new.clock) comes.1 before after c.in-On.output c.in-On.next c.in-Some.end
    c.close.result c.close.ensures (comes.2 state stands) c.in-Some.ensures.puts)

pub returns-in-None-put_output-clause-steps : goal.returns-in-None-put_output-clause-steps
returns-in-None-put_output-clause-steps g c state stands =
    let comes = c.in-Ends.ensures.comes in
    let before : Written = record {
      count = c.args.count.now;
      taken = g.K.Sink.taken c.args.sink.now;
      faults = g.K.Sink.sink_faults c.args.sink.now;
    } in
    let after : Written = record {
      count = c.put_output-in-Ends.new.count;
      taken = g.K.Sink.taken c.put_output-in-Ends.new.sink;
      faults = g.K.Sink.sink_faults c.put_output-in-Ends.new.sink;
    } in
    inl (ends_behind c.args.people.now state c.args.input.now comes.0 (g.D.Disk.faults (disk_in c.args.follower))
    (g.C.Clock.readings c.args.clock.now) (g.C.Clock.readings c.turn.new.clock) comes.1 before after
    c.in-Ends.output c.in-Ends.end c.in-Ends.disk (comes.2 state stands) c.in-None-put_output.ensures.puts)

pub returns-in-Ends-clause-steps : goal.returns-in-Ends-clause-steps
returns-in-Ends-clause-steps g c state stands =
    let comes = c.in-Ends.ensures.comes in
    let before : Written = record {
      count = c.args.count.now;
      taken = g.K.Sink.taken c.args.sink.now;
      faults = g.K.Sink.sink_faults c.args.sink.now;
    } in
    let after : Written = record {
      count = c.put_output-in-Ends.new.count;
      taken = g.K.Sink.taken c.put_output-in-Ends.new.sink;
      faults = g.K.Sink.sink_faults c.put_output-in-Ends.new.sink;
    } in
    inl (ends_unwritten c.args.people.now state c.args.input.now comes.0 (g.D.Disk.faults (disk_in c.args.follower))
    (g.C.Clock.readings c.args.clock.now) (g.C.Clock.readings c.turn.new.clock) comes.1 before after
    c.in-Ends.output c.in-Ends.end c.in-Some-put_output.end c.in-Ends.disk (comes.2 state stands)
    c.in-Some-put_output.ensures.puts)

pub returns-clause-steps : goal.returns-clause-steps
returns-clause-steps g c state stands =
    let comes = c.in-Lacks.ensures.comes in
    let before : Written = record {
      count = c.args.count.now;
      taken = g.K.Sink.taken c.args.sink.now;
      faults = g.K.Sink.sink_faults c.args.sink.now;
    } in
    inr (goes_nowhere c.args.people.now state c.args.input.now comes.0 (g.D.Disk.faults (disk_in c.args.follower))
    (g.C.Clock.readings c.args.clock.now) (g.C.Clock.readings c.turn.new.clock) before before c.in-Lacks.disk comes.1
    (comes.2 state stands) refl)
