use Rattle.std.proofs.Common.{[], sym, subst}
use Rattle.sm_replication.specs.declared.input.Input.{Input}
use Rattle.sm_replication.specs.Frames.{IsFrame}
use Rattle.sm_io.proofs.Known.{append_known-nil}
use Rattle.sm_follow.specs.Disks.{ComesTo, disk_in}
use Rattle.sm_follow.proofs.turns.turn.Goals as goal

pub take_frame-requires-clause-parts : goal.take_frame-requires-clause-parts
take_frame-requires-clause-parts g c = (subst IsFrame c.in-Frame.is c.requires.frame).parts

pub returns-in-Frame-clause-comes : goal.returns-in-Frame-clause-comes
returns-in-Frame-clause-comes g c = (
  [],
  sym (append_known-nil (g.C.Clock.readings c.args.clock.now)),
  λ state stands. subst
      (λ (i : Input). ComesTo c.args.people.now state i [] (g.D.Disk.faults (disk_in c.args.follower))
      c.take_frame.result) (sym c.in-Frame.is) (c.take_frame.ensures.comes c.args.people.now state stands),
)

pub answer_message-requires-clause-message : goal.answer_message-requires-clause-message
answer_message-requires-clause-message g c =
    rw c.as_slice.ensures (subst IsFrame c.in-Message.is c.requires.frame).parts

pub returns-in-Message-clause-comes : goal.returns-in-Message-clause-comes
returns-in-Message-clause-comes g c =
    let comes = rw c.as_slice.ensures at c.answer_message.ensures.comes in (
      comes.0,
      comes.1,
      λ state stands. subst
          (λ (i : Input). ComesTo c.args.people.now state i comes.0 (g.D.Disk.faults (disk_in c.args.follower))
          c.answer_message.result) (sym c.in-Message.is) (comes.2 state stands),
    )
