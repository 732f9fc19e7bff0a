use Rattle.sm_account.proofs.CallOutcomeLemmas.{nothing_done, room_taken}
use Rattle.sm_account.proofs.EffortLemmas.{enters_behind, leaves_behind}
use Rattle.sm_account.proofs.RoomLemmas.{limits_aside, room_kept}
use Rattle.sm_account.proofs.entering.enter_legal.Goals as goal

pub again-requires : goal.again-requires
again-requires g c = record { sound = c.requires.kept.sound; moment = c.requires.may.bound }

pub grow-requires : goal.grow-requires
grow-requires g c = record {
  can = c.in-Accept.ensures.can;
  bound = c.requires.may.bound;
  act = c.requires.may.act;
}

pub unreachable-requires : goal.unreachable-requires
unreachable-requires g c = c.in-Refuse.ensures.legal c.requires.may.legal

pub enter_due-requires : goal.enter_due-requires
enter_due-requires g c =
    let inner = c.args.inner.now in
    let mid = c.grow.new.inner in
    record {
      kept = room_kept inner mid c.in-Ok.ensures.same c.requires.kept;
      due = limits_aside inner mid c.in-Ok.ensures.same c.args.entry c.in-Accept.change
          c.in-Ok.due c.in-Ok.ensures.grown c.in-Accept.ensures.can
          c.in-Accept.ensures.stands c.in-Accept.ensures.makes c.in-Accept.ensures.change_sound c.requires.may.legal
          c.requires.may.later c.requires.may.bound;
      room = c.in-Ok.ensures.room;
    }

pub returns-in-Ok : goal.returns-in-Ok
returns-in-Ok g c =
    let inner = c.args.inner.now in
    let mid = c.grow.new.inner in
    let new = c.enter_due.new.inner in
    let grown = c.in-Ok.ensures in
    let due = c.in-Ok.due in
    record {
      kept = c.enter_due.ensures.kept;
      enters = enters_behind inner mid new c.args.seat grown.same c.args.entry due.entry grown.grown.entry_is
          c.enter_due.result c.enter_due.ensures.enters;
      leaves = leaves_behind inner mid new c.args.seat grown.same c.args.entry due.entry grown.grown.entry_is
          c.enter_due.result c.enter_due.ensures.leaves;
    }

pub returns-in-Err : goal.returns-in-Err
returns-in-Err g c =
    let inner = c.args.inner.now in
    let mid = c.grow.new.inner in
    record {
      kept = room_kept inner mid c.grow.ensures.same c.requires.kept;
      enters = tt;
      leaves = room_taken inner mid c.args.seat c.grow.ensures.same.rest;
    }

pub returns-in-Memory : goal.returns-in-Memory
returns-in-Memory g c = record {
  kept = c.requires.kept;
  enters = tt;
  leaves = nothing_done c.args.inner.now c.args.seat;
}
