use Rattle.std.proofs.Common.{◌≡◌, ◌≤◌, None}
use Rattle.sm_follow.specs.Disks.{IsSure, Stands, disk_in}
use Rattle.sm_follow.specs.Streams.{around_by}
use Rattle.sm_follow.specs.InputTurns.{State}
use Rattle.sm_follow.proofs.CourseLemmas.{Course}
use Rattle.sm_follow.proofs.following.follow_source.Given as goal

-- as many frames as the number says have been read
abbrev pub invariant-loop-number : goal.invariant-loop-number
invariant-loop-number g l = record {
  source_later : g.Q.Source.source_faults l.initial.source ≤ g.Q.Source.source_faults l.source;
  sink_later : g.K.Sink.sink_faults l.initial.sink ≤ g.K.Sink.sink_faults l.sink;
  disk_later : g.D.Disk.faults (disk_in l.initial.follower) ≤ g.D.Disk.faults (disk_in l.follower);
  sure : IsSure l.follower;
  going : l.reader.ended ≡ None;
  course : (state : State) → Stands state l.initial.follower → (now : State) × Stands now l.follower
      × Course l.people state
      (around_by g.Q.Source g.K.Sink g.C.Clock l.initial.source l.initial.sink l.initial.clock) l.number now
      (record {
        now = around_by g.Q.Source g.K.Sink g.C.Clock l.source l.sink l.clock;
        reader = l.reader;
        count = l.count;
      });
}
