use Rattle.std.proofs.Common.{refl}
use Rattle.sm_follow.specs.Disks.{disk_in}
use Rattle.sm_follow.proofs.TurnLemmas.{ahead_remembered, at_remembered, broken_remembered, frame_lacking, frame_said, promoted_remembered}
use Rattle.sm_follow.proofs.turns.take_frame.Goals as goal

pub returns-in-Memory-clause-comes : goal.returns-in-Memory-clause-comes
returns-in-Memory-clause-comes g c people state stands =
    frame_lacking people state c.args.follower c.args.frame.now (g.D.Disk.faults (disk_in c.args.follower)) stands
    c.close.result c.close.ensures

pub returns-in-At-clause-comes : goal.returns-in-At-clause-comes
returns-in-At-clause-comes g c people state stands =
    frame_said people state c.args.follower c.args.frame.now (g.D.Disk.faults (disk_in c.args.follower)) stands _ _
    c.say_position.result refl c.say_position.ensures c.in-At.ensures (at_remembered _)

pub returns-in-Ahead-clause-comes : goal.returns-in-Ahead-clause-comes
returns-in-Ahead-clause-comes g c people state stands =
    frame_said people state c.args.follower c.args.frame.now (g.D.Disk.faults (disk_in c.args.follower)) stands _ _
    c.say_position-in-Ahead.result refl c.say_position-in-Ahead.ensures c.in-Ahead.ensures (ahead_remembered _)

pub returns-in-Broken-clause-comes : goal.returns-in-Broken-clause-comes
returns-in-Broken-clause-comes g c people state stands =
    frame_said people state c.args.follower c.args.frame.now (g.D.Disk.faults (disk_in c.args.follower)) stands _ _
    c.say_position-in-Broken.result refl c.say_position-in-Broken.ensures c.in-Broken.ensures (broken_remembered _)

pub returns-in-Promoted-clause-comes : goal.returns-in-Promoted-clause-comes
returns-in-Promoted-clause-comes g c people state stands =
    frame_said people state c.args.follower c.args.frame.now (g.D.Disk.faults (disk_in c.args.follower)) stands _ _
    c.say_position-in-Promoted.result refl c.say_position-in-Promoted.ensures c.in-Promoted.ensures promoted_remembered
