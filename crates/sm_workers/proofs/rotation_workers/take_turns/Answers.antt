use Rattle.std.proofs.Common.{refl, ◌∙◌}
use Rattle.sm_account.specs.Accounts.{base}
use Rattle.sm_lock.specs.Handles.{built_with, number, seen}
use Rattle.sm_session.specs.Views.{local_state_by}
use Rattle.sm_workers.proofs.RotationWorkerLemmas.{so_far_first, turned_last, turned_on}
use Rattle.sm_workers.proofs.rotation_workers.take_turns.Goals as goal

pub loop-init : goal.loop-init
loop-init g c = record {
  gate = c.requires;
  numbered = refl;
  so_far = so_far_first g.R.Rotator.replies
      (record { base = base (built_with c.args.gate.now); seat = number c.args.pass })
      (record {
        own = local_state_by g.C.Clock g.W.Words (seen c.args.pass) c.args.clock.now c.args.words.now;
        rotator = g.R.Rotator.faults c.args.rotator.now;
      });
}

pub loop-preserved : goal.loop-preserved
loop-preserved g c =
    let i = c.loop.invariant in
    let turned = c.rotation_turn-turned in
    let after = c.rest-after in
    record {
      gate = after.ensures.gate;
      numbered = after.ensures.number ∙ turned.ensures.number ∙ i.numbered;
      so_far = turned_on g.R.Rotator.replies (base (built_with c.args.gate.now)) (number c.loop.pass)
          (number c.args.pass) i.numbered _ _ _ i.so_far turned.result.done turned.ensures.turn.0
          (record { random = turned.ensures.words_later; rotator = turned.ensures.rotator_later })
          (number turned.result.pass) _ turned.ensures.number after.ensures.seen after.ensures.readings refl refl
          refl;
    }

pub returns-then-ends-clause-did : goal.returns-then-ends-clause-did
returns-then-ends-clause-did g c =
    let i = c.loop.invariant in
    let turned = c.rotation_turn-turned in
    let after = c.rest-after in
    turned_last g.R.Rotator.replies (base (built_with c.args.gate.now)) (number c.loop.pass) (number c.args.pass)
    i.numbered _ _ _ i.so_far turned.result.done turned.ensures.turn.0
    (record { random = turned.ensures.words_later; rotator = turned.ensures.rotator_later })
    (number turned.result.pass) _ turned.ensures.number after.ensures.seen after.ensures.readings refl refl refl
    (after.ensures.ends c.if-ends.true)
