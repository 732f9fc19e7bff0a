use Rattle.std.proofs.Common.{◌≡◌, false, refl, arith}
use Rattle.sm_table.specs.Changes.{CanMake, StandsAt}
use Rattle.sm_table.specs.Sound.{ChangeSound}
use Rattle.sm_table.specs.Sweep.{sweep}
use Rattle.sm_core.specs.Effects.{Makes}
use Rattle.sm_core.specs.Histories.{LegalAct}
use Rattle.sm_core.specs.Judging.{is_reading}
use Rattle.sm_model.specs.declared.entry.Act.TheVariants.{Asked}
use Rattle.sm_versions.specs.Prune.{pruning}
use Rattle.sm_encoded_size.proofs.RequestSizes.{few_tags}
use Rattle.sm_account.specs.Outcome.{Question, asked_entry}
use Rattle.sm_account.proofs.HandleLemmas.{after_room, wanted_memory}
use Rattle.sm_account.proofs.QuestionLemmas.{of_change, read_so, refused_so, made_so}
use Rattle.sm_account.proofs.RoomLemmas.{limits_aside, room_kept}
use Rattle.sm_account.specs.declared.handled.Handled.TheVariants.{Memory}
use Rattle.sm_account.proofs.handling.handle.Goals as goal

pub consider-requires : goal.consider-requires
consider-requires g c = record {
  sound = c.requires.kept.sound;
  moment = omega (arith, c.max.ensures, c.requires.kept.bound, c.requires.bound);
  drawn = c.requires.drawn;
}

pub grow_request-requires : goal.grow_request-requires
grow_request-requires g c =
    let inner = c.args.inner.now in
    let request = c.args.tested.request.now in
    let change = of_change c.in-Accept.reply c.in-Accept.change c.in-Some.change c.in-Some.is in
    let legal = change
    (λ _. LegalAct inner.table (pruning (record { 0 = c.max.result })) c.args.drawn.now (Asked request))
    c.in-Accept.ensures.legal in
    record {
      can = change (CanMake inner.table) c.in-Accept.ensures.can;
      bound = omega (arith, c.max.ensures, c.requires.kept.bound, c.requires.bound);
      person = c.requires.person;
      drawn = c.requires.drawn;
      forms = legal.1;
      changes = change (λ _. is_reading request ≡ false) c.in-Accept.ensures.changes;
      few = few_tags inner.table (pruning (record { 0 = c.max.result })) c.args.drawn.now request legal;
    }

pub finish-requires : goal.finish-requires
finish-requires g c =
    let inner = c.args.inner.now in
    let mid = c.grow_request.new.inner in
    let drawn = c.args.drawn.now in
    let request = c.args.tested.request.now in
    let entry = asked_entry (record { 0 = c.max.result }) c.args.person.now drawn request in
    let change = of_change c.in-Accept.reply c.in-Accept.change c.in-Some.change c.in-Some.is in
    record {
      kept = room_kept inner mid c.in-Ok.ensures.same c.requires.kept;
      due = limits_aside inner mid c.in-Ok.ensures.same entry c.in-Some.change c.in-Ok.due c.in-Ok.ensures.grown
          (change (CanMake inner.table) c.in-Accept.ensures.can)
          (change (StandsAt inner.table (record { 0 = c.max.result })) c.in-Accept.ensures.stands)
          (change (Makes inner.table entry) c.in-Accept.ensures.makes)
          (change (ChangeSound (sweep inner.table (record { 0 = c.max.result }))) c.in-Accept.ensures.change_sound) (
            refl,
            change (λ _. LegalAct inner.table (pruning (record { 0 = c.max.result })) drawn (Asked request))
                c.in-Accept.ensures.legal,
          )
          (omega (arith, c.max.ensures))
          (omega (arith, c.max.ensures, c.requires.kept.bound, c.requires.bound));
      room = c.in-Ok.ensures.room;
    }

pub returns-in-None : goal.returns-in-None
returns-in-None g c =
    let q : Question = record {
      person = c.args.person.now;
      now = c.args.now;
      drawn = c.args.drawn.now;
      request = c.args.tested.request.now;
    } in
    record {
      kept = c.requires.kept;
      handles = read_so c.args.inner.now c.args.seat q c.max.result c.max.ensures c.in-Accept.reply c.in-Accept.change
          c.in-None.is c.in-Accept.ensures.considered;
    }

pub returns-in-Refuse : goal.returns-in-Refuse
returns-in-Refuse g c =
    let q : Question = record {
      person = c.args.person.now;
      now = c.args.now;
      drawn = c.args.drawn.now;
      request = c.args.tested.request.now;
    } in
    record {
      kept = c.requires.kept;
      handles = refused_so c.args.inner.now c.args.seat q c.max.result c.max.ensures c.in-Refuse.why
          c.in-Refuse.ensures.considered;
    }

pub returns-in-Memory : goal.returns-in-Memory
returns-in-Memory g c = record {
  kept = c.requires.kept;
  handles = wanted_memory c.args.inner.now c.args.seat _;
}

pub returns-in-Err : goal.returns-in-Err
returns-in-Err g c = record {
  kept = room_kept c.args.inner.now c.grow_request.new.inner c.grow_request.ensures.same c.requires.kept;
  handles = after_room c.args.inner.now c.grow_request.new.inner c.grow_request.new.inner c.args.seat
      c.grow_request.ensures.same Memory _
      (wanted_memory c.grow_request.new.inner c.args.seat _);
}

pub returns-in-Ok : goal.returns-in-Ok
returns-in-Ok g c =
    let q : Question = record {
      person = c.args.person.now;
      now = c.args.now;
      drawn = c.args.drawn.now;
      request = c.args.tested.request.now;
    } in
    record {
      kept = c.finish.ensures.kept;
      handles = made_so c.args.inner.now c.args.seat q c.max.result c.max.ensures c.grow_request.new.inner
          c.finish.new.inner
          c.in-Ok.ensures.same c.in-Ok.due c.in-Accept.reply c.in-Accept.change c.in-Some.change c.in-Some.is
          c.in-Accept.ensures.considered c.in-Ok.ensures.grown.entry_is c.finish.result c.finish.ensures.handles;
    }
