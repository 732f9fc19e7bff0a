use Rattle.std.proofs.Common.{◌≡◌, true, false, refl, sym, subst, ◌∙◌, inl, arith}
use Rattle.sm_account.specs.Accounts.{history, base, disk}
use Rattle.sm_account.specs.States.{Base}
use Rattle.sm_rotation.specs.Vouched.{Replies}
use Rattle.sm_account.specs.SeatTraces.{NoGap}
use Rattle.sm_pool.specs.declared.done.Done.{Done}
use Rattle.sm_pool.specs.Alone.{IsStale}
use Rattle.sm_pool.specs.Rounds.{Point, Turned, goes_on}
use Rattle.sm_pool.specs.Asking.{Asking}
use Rattle.sm_pool.specs.Turns.{Passing, TurnAsks, TurnDone}
use Rattle.sm_account.proofs.OriginLemmas.{same_origin, same_origin_still, unsure_since}
use Rattle.sm_pool.proofs.RoundLemmas.{Heard, progress_first, progress_more, round_full, round_rests, turned_by}
use Rattle.sm_pool.proofs.rounds.turns.Goals as goal

pub loop-number-init : goal.loop-number-init
loop-number-init g c =
    let account = c.args.account.now in
    record {
      origin = same_origin_still account;
      unsure = λ some. inl some;
      disk_later = omega arith;
      rotator_later = omega arith;
      words_later = omega arith;
      progress = progress_first g.R.Rotator.replies (base account) c.args.seat
          (record {
            history = history account;
            counts = record {
              disk = g.D.Disk.faults (disk account);
              words = g.W.Words.faults c.args.words.now;
              rotator = g.R.Rotator.faults c.args.rotator.now;
            };
          })
          (record {
            clock = g.C.Clock.readings c.args.clock.now;
            words = g.W.Words.drawn c.args.words.now;
            rotator = g.R.Rotator.told c.args.rotator.now;
          });
    }

pub loop-number-preserved : goal.loop-number-preserved
loop-number-preserved g c =
    let i = c.loop-number.invariant in
    let replies : Replies = g.R.Rotator.replies in
    let seat = c.args.seat in
    let done : Done = c.one_turn-done.result in
    let over : Base = base c.args.account.now in
    let old = c.loop-number.account in
    let new = c.one_turn-done.new.account in
    let from : Point = record {
      history = history c.args.account.now;
      counts = record {
        disk = g.D.Disk.faults (disk c.args.account.now);
        words = g.W.Words.faults c.args.words.now;
        rotator = g.R.Rotator.faults c.args.rotator.now;
      };
    } in
    let at : Point = record {
      history = history old;
      counts = record {
        disk = g.D.Disk.faults (disk old);
        words = g.W.Words.faults c.loop-number.words;
        rotator = g.R.Rotator.faults c.loop-number.rotator;
      };
    } in
    let to : Point = record {
      history = history new;
      counts = record {
        disk = g.D.Disk.faults (disk new);
        words = g.W.Words.faults c.one_turn-done.new.words;
        rotator = g.R.Rotator.faults c.one_turn-done.new.rotator;
      };
    } in
    let before : Heard = record {
      clock = g.C.Clock.readings c.args.clock.now;
      words = g.W.Words.drawn c.args.words.now;
      rotator = g.R.Rotator.told c.args.rotator.now;
    } in
    let now : Heard = record {
      clock = g.C.Clock.readings c.loop-number.clock;
      words = g.W.Words.drawn c.loop-number.words;
      rotator = g.R.Rotator.told c.loop-number.rotator;
    } in
    let later : Heard = record {
      clock = g.C.Clock.readings c.one_turn-done.new.clock;
      words = g.W.Words.drawn c.one_turn-done.new.words;
      rotator = g.R.Rotator.told c.one_turn-done.new.rotator;
    } in
    let passing : Passing = record {
      clock = record { before = now.clock; after = later.clock };
      words = record { before = now.words; after = later.words };
      words_count = record { before = at.counts.words; after = to.counts.words };
      rotator_count = record { before = at.counts.rotator; after = to.counts.rotator };
    } in
    let asking : Asking = record { before = now.rotator; after = later.rotator } in
    let asked : TurnAsks replies over NoGap seat passing asking at.history to.history done =
    subst (λ (b : Base). TurnAsks replies b NoGap seat passing asking at.history to.history done) i.origin.base_stays
    c.one_turn-done.ensures.turn in
    let turn : TurnDone replies over NoGap seat passing at.history to.history done = asked.0 in
    let turned : Turned replies over seat at turn.course to =
    turned_by replies over seat at to passing done turn c.one_turn-done.ensures.disk refl refl (record {
      disk = c.one_turn-done.ensures.disk_later;
      words = c.one_turn-done.ensures.words_later;
      rotator = c.one_turn-done.ensures.rotator_later;
    }) in
    record {
      origin = same_origin _ _ _ i.origin c.one_turn-done.ensures.origin;
      unsure = unsure_since _ _ _ _ _ _ i.unsure c.one_turn-done.ensures.unsure i.disk_later
          c.one_turn-done.ensures.disk_later;
      disk_later = omega (arith, i.disk_later, c.one_turn-done.ensures.disk_later);
      rotator_later = omega (arith, i.rotator_later, c.one_turn-done.ensures.rotator_later);
      words_later = omega (arith, i.words_later, c.one_turn-done.ensures.words_later);
      progress = progress_more replies over seat from before c.loop-number.number at now i.progress to later turn.course
          turned turn.takes.readings turn.takes.drawn asked.1
          (subst (λ d. goes_on d ≡ true) turn.takes.done_is
          (sym c.goes_on.ensures ∙ c.if-not-goes_on.false));
    }

pub returns-then-not-goes_on-clause-rotated : goal.returns-then-not-goes_on-clause-rotated
returns-then-not-goes_on-clause-rotated g c =
    let i = c.loop-number.invariant in
    let replies : Replies = g.R.Rotator.replies in
    let seat = c.args.seat in
    let done : Done = c.one_turn-done.result in
    let over : Base = base c.args.account.now in
    let old = c.loop-number.account in
    let new = c.one_turn-done.new.account in
    let from : Point = record {
      history = history c.args.account.now;
      counts = record {
        disk = g.D.Disk.faults (disk c.args.account.now);
        words = g.W.Words.faults c.args.words.now;
        rotator = g.R.Rotator.faults c.args.rotator.now;
      };
    } in
    let at : Point = record {
      history = history old;
      counts = record {
        disk = g.D.Disk.faults (disk old);
        words = g.W.Words.faults c.loop-number.words;
        rotator = g.R.Rotator.faults c.loop-number.rotator;
      };
    } in
    let to : Point = record {
      history = history new;
      counts = record {
        disk = g.D.Disk.faults (disk new);
        words = g.W.Words.faults c.one_turn-done.new.words;
        rotator = g.R.Rotator.faults c.one_turn-done.new.rotator;
      };
    } in
    let before : Heard = record {
      clock = g.C.Clock.readings c.args.clock.now;
      words = g.W.Words.drawn c.args.words.now;
      rotator = g.R.Rotator.told c.args.rotator.now;
    } in
    let now : Heard = record {
      clock = g.C.Clock.readings c.loop-number.clock;
      words = g.W.Words.drawn c.loop-number.words;
      rotator = g.R.Rotator.told c.loop-number.rotator;
    } in
    let later : Heard = record {
      clock = g.C.Clock.readings c.one_turn-done.new.clock;
      words = g.W.Words.drawn c.one_turn-done.new.words;
      rotator = g.R.Rotator.told c.one_turn-done.new.rotator;
    } in
    let passing : Passing = record {
      clock = record { before = now.clock; after = later.clock };
      words = record { before = now.words; after = later.words };
      words_count = record { before = at.counts.words; after = to.counts.words };
      rotator_count = record { before = at.counts.rotator; after = to.counts.rotator };
    } in
    let asking : Asking = record { before = now.rotator; after = later.rotator } in
    let asked : TurnAsks replies over NoGap seat passing asking at.history to.history done =
    subst (λ (b : Base). TurnAsks replies b NoGap seat passing asking at.history to.history done) i.origin.base_stays
    c.one_turn-done.ensures.turn in
    let turn : TurnDone replies over NoGap seat passing at.history to.history done = asked.0 in
    let turned : Turned replies over seat at turn.course to =
    turned_by replies over seat at to passing done turn c.one_turn-done.ensures.disk refl refl (record {
      disk = c.one_turn-done.ensures.disk_later;
      words = c.one_turn-done.ensures.words_later;
      rotator = c.one_turn-done.ensures.rotator_later;
    }) in
    round_rests replies over seat from before c.loop-number.number at now i.progress to later turn.course turned
    turn.takes.readings turn.takes.drawn asked.1 c.loop-number-test.true
    (subst (λ d. goes_on d ≡ false) turn.takes.done_is
    (sym c.goes_on.ensures ∙ c.if-not-goes_on.true))
    (subst (λ d. IsStale d → ⊥) turn.takes.done_is c.one_turn-done.ensures.never_stale)

pub returns-then-not-goes_on-clause-origin : goal.returns-then-not-goes_on-clause-origin
returns-then-not-goes_on-clause-origin g c =
    same_origin _ _ _ c.loop-number.invariant.origin c.one_turn-done.ensures.origin

pub returns-then-not-goes_on-clause-unsure : goal.returns-then-not-goes_on-clause-unsure
returns-then-not-goes_on-clause-unsure g c =
    unsure_since _ _ _ _ _ _ c.loop-number.invariant.unsure c.one_turn-done.ensures.unsure
    c.loop-number.invariant.disk_later c.one_turn-done.ensures.disk_later

pub returns-clause-rotated : goal.returns-clause-rotated
returns-clause-rotated g c =
    let account = c.args.account.now in
    let from : Point = record {
      history = history account;
      counts = record {
        disk = g.D.Disk.faults (disk account);
        words = g.W.Words.faults c.args.words.now;
        rotator = g.R.Rotator.faults c.args.rotator.now;
      };
    } in
    let at : Point = record {
      history = history c.loop-number.account;
      counts = record {
        disk = g.D.Disk.faults (disk c.loop-number.account);
        words = g.W.Words.faults c.loop-number.words;
        rotator = g.R.Rotator.faults c.loop-number.rotator;
      };
    } in
    let before : Heard = record {
      clock = g.C.Clock.readings c.args.clock.now;
      words = g.W.Words.drawn c.args.words.now;
      rotator = g.R.Rotator.told c.args.rotator.now;
    } in
    let now : Heard = record {
      clock = g.C.Clock.readings c.loop-number.clock;
      words = g.W.Words.drawn c.loop-number.words;
      rotator = g.R.Rotator.told c.loop-number.rotator;
    } in
    round_full g.R.Rotator.replies (base account) c.args.seat from before c.loop-number.number at now
    c.loop-number.invariant.progress (omega (arith, c.loop-number.auto.number-end, c.loop-number-test.false))
