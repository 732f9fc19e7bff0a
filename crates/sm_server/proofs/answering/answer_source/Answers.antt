use Rattle.std.proofs.Common.{◌≡◌, refl, subst, ◌∙◌, inl, arith}
use Rattle.std.proofs.lemmas.Bool.{not-true, not-false}
use Rattle.sm_table.specs.Sound.{Sound}
use Rattle.sm_core.specs.Histories.{replay}
use Rattle.sm_account.specs.Accounts.{history, base, disk}
use Rattle.sm_account.specs.History.{entries_in}
use Rattle.sm_account.specs.States.{Base}
use Rattle.sm_session.specs.Endings.{Sides}
use Rattle.sm_account.proofs.OriginLemmas.{unsure_since}
use Rattle.sm_server.specs.Outside.{Outside, outside_by}
use Rattle.sm_account.proofs.OriginLemmas.{same_origin, same_origin_still}
use Rattle.sm_server.proofs.RunLemmas.{Point, Step, Turned, Later, progress_first, progress_more, run_cut, run_enough, run_stops}
use Rattle.sm_server.proofs.answering.answer_source.Goals as goal

pub loop-number-init : goal.loop-number-init
loop-number-init g c =
    let before : Outside = outside_by g.Q.Source g.K.Sink g.C.Clock g.W.Words g.R.Rotator c.args.source.now
    c.args.sink.now (g.D.Disk.faults (disk c.args.account.now)) c.args.clock.now c.args.random.now
    c.args.rotator.now in
    record {
      origin = same_origin_still c.args.account.now;
      unsure = λ some. inl some;
      source_later = omega arith;
      sink_later = omega arith;
      disk_later = omega arith;
      random_later = omega arith;
      rotator_later = omega arith;
      progress = progress_first g.R.Rotator.replies c.args.people.now (base c.args.account.now) before
          c.new-reader.result
          (history c.args.account.now) c.new-reader.ensures c.requires;
    }

pub returns-in-Err-clause-runs : goal.returns-in-Err-clause-runs
returns-in-Err-clause-runs g c =
    let i = c.loop-number.invariant in
    let before : Outside = outside_by g.Q.Source g.K.Sink g.C.Clock g.W.Words g.R.Rotator c.args.source.now
    c.args.sink.now (g.D.Disk.faults (disk c.args.account.now)) c.args.clock.now c.args.random.now
    c.args.rotator.now in
    let at : Point = record {
      now = outside_by g.Q.Source g.K.Sink g.C.Clock g.W.Words g.R.Rotator c.loop-number.source c.loop-number.sink
          (g.D.Disk.faults (disk c.loop-number.account)) c.loop-number.clock c.loop-number.random c.loop-number.rotator;
      reader = c.loop-number.reader;
      history = history c.loop-number.account;
      count = c.loop-number.count;
    } in
    let sides : Sides = record {
      left = g.Q.Source.left c.next_message.new.source;
      taken = g.K.Sink.taken c.finish.new.sink;
      source = g.Q.Source.source_faults c.next_message.new.source;
      sink = g.K.Sink.sink_faults c.finish.new.sink;
    } in
    run_stops g.R.Rotator.replies c.args.people.now (base c.args.account.now) before c.loop-number.number at i.progress
    c.next_message.new.reader sides c.in-Err.stop c.finish.result c.loop-number-test.true c.in-Err.ensures.reads
    c.in-Err.ensures.stops c.next_message.ensures.later c.finish.ensures.finishes

pub returns-then-not-sent-clause-runs : goal.returns-then-not-sent-clause-runs
returns-then-not-sent-clause-runs g c =
    let i = c.loop-number.invariant in
    let t = c.answer_message-sent.ensures.turn in
    let before : Outside = outside_by g.Q.Source g.K.Sink g.C.Clock g.W.Words g.R.Rotator c.args.source.now
    c.args.sink.now (g.D.Disk.faults (disk c.args.account.now)) c.args.clock.now c.args.random.now
    c.args.rotator.now in
    let at : Point = record {
      now = outside_by g.Q.Source g.K.Sink g.C.Clock g.W.Words g.R.Rotator c.loop-number.source c.loop-number.sink
          (g.D.Disk.faults (disk c.loop-number.account)) c.loop-number.clock c.loop-number.random c.loop-number.rotator;
      reader = c.loop-number.reader;
      history = history c.loop-number.account;
      count = c.loop-number.count;
    } in
    let step : Step = record {
      now = at.now;
      history = at.history;
      message = c.in-Ok.message;
      after = outside_by g.Q.Source g.K.Sink g.C.Clock g.W.Words g.R.Rotator c.next_message.new.source
          c.answer_message-sent.new.sink (g.D.Disk.faults (disk c.answer_message-sent.new.account))
          c.answer_message-sent.new.clock c.answer_message-sent.new.random c.answer_message-sent.new.rotator;
      history' = history c.answer_message-sent.new.account;
      reply = t.0;
    } in
    let stays : base c.loop-number.account ≡ base c.args.account.now = i.origin.base_stays in
    let turned : Turned g.R.Rotator.replies c.args.people.now (base c.args.account.now) step =
    subst (λ (b : Base). Turned g.R.Rotator.replies c.args.people.now b step) stays t.1 in
    let later : Later (base c.args.account.now) step = record {
      fell = record {
        disk = c.answer_message-sent.ensures.disk_later;
        words = c.answer_message-sent.ensures.random_later;
        rotator = c.answer_message-sent.ensures.rotator_later;
      };
      sound = subst (λ (b : Base). Sound (replay b.rows (entries_in (history c.answer_message-sent.new.account))))
          (c.answer_message-sent.ensures.origin.base_stays ∙ stays)
          (subst Sound c.invariants.ensures.rows c.invariants.ensures.sound);
    } in
    run_cut g.R.Rotator.replies c.args.people.now (base c.args.account.now) before c.loop-number.number at i.progress
    c.next_message.new.reader step refl refl turned later c.in-Ok.ensures.reads c.next_message.ensures.later
    c.answer_message-sent.ensures.sink_later c.answer_message-sent.result t.2 c.saturating_add-count.result
    c.saturating_add-count.ensures c.loop-number-test.true
    (not-true c.answer_message-sent.result.whole c.if-not-sent.true)

pub returns-then-not-sent-clause-origin : goal.returns-then-not-sent-clause-origin
returns-then-not-sent-clause-origin g c =
    same_origin _ _ _ c.loop-number.invariant.origin c.answer_message-sent.ensures.origin

pub returns-then-not-sent-clause-unsure : goal.returns-then-not-sent-clause-unsure
returns-then-not-sent-clause-unsure g c =
    unsure_since _ _ _ _ _ _ c.loop-number.invariant.unsure c.answer_message-sent.ensures.unsure
    c.loop-number.invariant.disk_later c.answer_message-sent.ensures.disk_later

pub loop-number-preserved : goal.loop-number-preserved
loop-number-preserved g c =
    let i = c.loop-number.invariant in
    let t = c.answer_message-sent.ensures.turn in
    let before : Outside = outside_by g.Q.Source g.K.Sink g.C.Clock g.W.Words g.R.Rotator c.args.source.now
    c.args.sink.now (g.D.Disk.faults (disk c.args.account.now)) c.args.clock.now c.args.random.now
    c.args.rotator.now in
    let at : Point = record {
      now = outside_by g.Q.Source g.K.Sink g.C.Clock g.W.Words g.R.Rotator c.loop-number.source c.loop-number.sink
          (g.D.Disk.faults (disk c.loop-number.account)) c.loop-number.clock c.loop-number.random c.loop-number.rotator;
      reader = c.loop-number.reader;
      history = history c.loop-number.account;
      count = c.loop-number.count;
    } in
    let step : Step = record {
      now = at.now;
      history = at.history;
      message = c.in-Ok.message;
      after = outside_by g.Q.Source g.K.Sink g.C.Clock g.W.Words g.R.Rotator c.next_message.new.source
          c.answer_message-sent.new.sink (g.D.Disk.faults (disk c.answer_message-sent.new.account))
          c.answer_message-sent.new.clock c.answer_message-sent.new.random c.answer_message-sent.new.rotator;
      history' = history c.answer_message-sent.new.account;
      reply = t.0;
    } in
    let stays : base c.loop-number.account ≡ base c.args.account.now = i.origin.base_stays in
    let turned : Turned g.R.Rotator.replies c.args.people.now (base c.args.account.now) step =
    subst (λ (b : Base). Turned g.R.Rotator.replies c.args.people.now b step) stays t.1 in
    let later : Later (base c.args.account.now) step = record {
      fell = record {
        disk = c.answer_message-sent.ensures.disk_later;
        words = c.answer_message-sent.ensures.random_later;
        rotator = c.answer_message-sent.ensures.rotator_later;
      };
      sound = subst (λ (b : Base). Sound (replay b.rows (entries_in (history c.answer_message-sent.new.account))))
          (c.answer_message-sent.ensures.origin.base_stays ∙ stays)
          (subst Sound c.invariants.ensures.rows c.invariants.ensures.sound);
    } in
    record {
      origin = same_origin _ _ _ i.origin c.answer_message-sent.ensures.origin;
      unsure = unsure_since _ _ _ _ _ _ i.unsure c.answer_message-sent.ensures.unsure i.disk_later
          c.answer_message-sent.ensures.disk_later;
      source_later = omega (arith, i.source_later, c.next_message.ensures.later);
      sink_later = omega (arith, i.sink_later, c.answer_message-sent.ensures.sink_later);
      disk_later = omega (arith, i.disk_later, c.answer_message-sent.ensures.disk_later);
      random_later = omega (arith, i.random_later, c.answer_message-sent.ensures.random_later);
      rotator_later = omega (arith, i.rotator_later, c.answer_message-sent.ensures.rotator_later);
      progress = progress_more g.R.Rotator.replies c.args.people.now (base c.args.account.now) before
          c.loop-number.number at i.progress
          c.next_message.new.reader step refl refl turned later c.in-Ok.ensures.reads c.next_message.ensures.later
          c.answer_message-sent.ensures.sink_later c.answer_message-sent.result t.2 c.saturating_add-count.result
          c.saturating_add-count.ensures
          (not-false c.answer_message-sent.result.whole c.if-not-sent.false);
    }

pub returns-clause-runs : goal.returns-clause-runs
returns-clause-runs g c =
    let before : Outside = outside_by g.Q.Source g.K.Sink g.C.Clock g.W.Words g.R.Rotator c.args.source.now
    c.args.sink.now (g.D.Disk.faults (disk c.args.account.now)) c.args.clock.now c.args.random.now
    c.args.rotator.now in
    let at : Point = record {
      now = outside_by g.Q.Source g.K.Sink g.C.Clock g.W.Words g.R.Rotator c.loop-number.source c.loop-number.sink
          (g.D.Disk.faults (disk c.loop-number.account)) c.loop-number.clock c.loop-number.random c.loop-number.rotator;
      reader = c.loop-number.reader;
      history = history c.loop-number.account;
      count = c.loop-number.count;
    } in
    run_enough g.R.Rotator.replies c.args.people.now (base c.args.account.now) before c.loop-number.number at
    c.loop-number.invariant.progress (omega (arith, c.loop-number.auto.number-end, c.loop-number-test.false))
