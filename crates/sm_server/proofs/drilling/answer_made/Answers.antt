use Rattle.std.proofs.Common.{◌≡◌, ◌+◌, Result, sym, ap, subst, ◌∙◌, inl, arith, option_map}
use Rattle.std.proofs.lemmas.Result.{err_from_is_err_and}
use Rattle.sm_base.specs.declared.memory.NoMemory.{NoMemory}
use Rattle.sm_table.specs.Sound.{Sound}
use Rattle.sm_core.specs.Histories.{replay}
use Rattle.sm_account.specs.Accounts.{history, base, disk}
use Rattle.sm_account.specs.History.{entries_in}
use Rattle.sm_account.specs.States.{Base}
use Rattle.sm_drill.specs.Messages.{DrillState, message_of}
use Rattle.sm_session.specs.Replies.{reply_of}
use Rattle.sm_account.proofs.OriginLemmas.{same_origin, same_origin_still, unsure_since}
use Rattle.sm_server.specs.declared.drilling.Drilled.{Drilled}
use Rattle.sm_server.specs.Drills.{AnswersMade}
use Rattle.sm_server.specs.Outside.{Outside, outside_inside}
use Rattle.sm_server.proofs.DrillLemmas.{made_all, made_first, made_lacking, made_more}
use Rattle.sm_server.proofs.RunLemmas.{Later, Step, Turned}
use Rattle.sm_server.proofs.drilling.answer_made.Goals as goal

pub loop-index-init : goal.loop-index-init
loop-index-init g c = record {
  origin = same_origin_still c.args.account.now;
  unsure = λ some. inl some;
  disk_later = omega arith;
  random_later = omega arith;
  rotator_later = omega arith;
  drill = c.new-drill.ensures;
  few = omega arith;
  made = λ left taken source sink.
      made_first g.R.Rotator.replies c.args.people.now (base c.args.account.now) c.args.number
      (outside_inside left taken source sink g.C.Clock g.W.Words g.R.Rotator (g.D.Disk.faults (disk c.args.account.now))
      c.args.clock.now c.args.random.now c.args.rotator.now)
      (history c.args.account.now) c.requires;
}

pub loop-index-preserved : goal.loop-index-preserved
loop-index-preserved g c =
    let i = c.loop-index.invariant in
    let said = c.answer_one-said in
    let stays : base c.loop-index.account ≡ base c.args.account.now = i.origin.base_stays in
    record {
      origin = same_origin _ _ _ i.origin said.ensures.origin;
      unsure = unsure_since _ _ _ _ _ _ i.unsure said.ensures.unsure i.disk_later said.ensures.disk_later;
      disk_later = omega (arith, i.disk_later, said.ensures.disk_later);
      random_later = omega (arith, i.random_later, said.ensures.random_later);
      rotator_later = omega (arith, i.rotator_later, said.ensures.rotator_later);
      drill = c.next.ensures.at ∙ ap (λ (d : DrillState). record d { at = d.at + 1 }) i.drill;
      few = omega (arith, i.few, c.refusals_in-refused.ensures.few);
      made = λ left taken source sink.
          let outside : Outside =
          outside_inside left taken source sink g.C.Clock g.W.Words g.R.Rotator
          (g.D.Disk.faults (disk c.args.account.now)) c.args.clock.now c.args.random.now c.args.rotator.now in
          let step : Step = record {
            now = outside_inside left taken source sink g.C.Clock g.W.Words g.R.Rotator
                (g.D.Disk.faults (disk c.loop-index.account)) c.loop-index.clock c.loop-index.random
                c.loop-index.rotator;
            history = history c.loop-index.account;
            message = c.in_ok-message.message;
            after = outside_inside left taken source sink g.C.Clock g.W.Words g.R.Rotator
                (g.D.Disk.faults (disk said.new.account)) said.new.clock said.new.random said.new.rotator;
            history' = history said.new.account;
            reply = reply_of said.result;
          } in
          let turned : Turned g.R.Rotator.replies c.args.people.now (base c.args.account.now) step =
          subst (λ (b : Base). Turned g.R.Rotator.replies c.args.people.now b step) stays said.ensures.turn in
          let later : Later (base c.args.account.now) step = record {
            fell = record {
              disk = said.ensures.disk_later;
              words = said.ensures.random_later;
              rotator = said.ensures.rotator_later;
            };
            sound = subst (λ (b : Base). Sound (replay b.rows (entries_in (history said.new.account))))
                (said.ensures.origin.base_stays ∙ stays)
                (subst Sound c.invariants.ensures.rows c.invariants.ensures.sound);
          } in
          made_more g.R.Rotator.replies c.args.people.now (base c.args.account.now) c.args.number c.loop-index.index
          outside step c.loop-index.refused (option_map reply_of c.loop-index.last) (i.made left taken source sink)
          turned later
          (c.in_ok-message.ensures.message ∙ ap (λ (d : DrillState). message_of d.number d.at) i.drill)
          (c.loop-index.refused + c.refusals_in-refused.result)
          (ap (λ n. c.loop-index.refused + n) c.refusals_in-refused.ensures.counted);
    }

pub returns-in_err-message-clause-answered : goal.returns-in_err-message-clause-answered
returns-in_err-message-clause-answered g c left taken source sink =
    let failed = err_from_is_err_and c.from_residual.result c.from_residual.ensures.1 in
    let before : Outside =
    outside_inside left taken source sink g.C.Clock g.W.Words g.R.Rotator (g.D.Disk.faults (disk c.args.account.now))
    c.args.clock.now c.args.random.now c.args.rotator.now in
    let now : Outside =
    outside_inside left taken source sink g.C.Clock g.W.Words g.R.Rotator (g.D.Disk.faults (disk c.loop-index.account))
    c.loop-index.clock c.loop-index.random c.loop-index.rotator in
    subst (λ (r : Result Drilled NoMemory). AnswersMade g.R.Rotator.replies c.args.people.now
    (base c.args.account.now) c.args.number r before now (history c.loop-index.account)) (sym failed.1)
    (made_lacking g.R.Rotator.replies c.args.people.now (base c.args.account.now) c.args.number c.loop-index.index
    before now (history c.loop-index.account) c.loop-index.refused (option_map reply_of c.loop-index.last) failed.0
    (omega arith) (c.loop-index.invariant.made left taken source sink))

pub returns-clause-answered : goal.returns-clause-answered
returns-clause-answered g c left taken source sink =
    made_all g.R.Rotator.replies c.args.people.now (base c.args.account.now) c.args.number c.loop-index.index
    (outside_inside left taken source sink g.C.Clock g.W.Words g.R.Rotator (g.D.Disk.faults (disk c.args.account.now))
    c.args.clock.now c.args.random.now c.args.rotator.now)
    (outside_inside left taken source sink g.C.Clock g.W.Words g.R.Rotator (g.D.Disk.faults (disk c.loop-index.account))
    c.loop-index.clock c.loop-index.random c.loop-index.rotator)
    (history c.loop-index.account) c.loop-index.refused c.loop-index.last
    (omega (arith, c.loop-index.auto.index-end, c.loop-index-test.false))
    (c.loop-index.invariant.made left taken source sink)
