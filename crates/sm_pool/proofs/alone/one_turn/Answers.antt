use Rattle.std.proofs.Common.{refl, sym, subst, inl}
use Rattle.sm_account.specs.Accounts.{base, history}
use Rattle.sm_account.specs.States.{Base}
use Rattle.sm_account.specs.SeatTraces.{NoGap}
use Rattle.sm_pool.specs.Asking.{Asking}
use Rattle.sm_pool.specs.Turns.{Passing, StartDone, WorkDone}
use Rattle.sm_pool.proofs.AloneLemmas.{never_stale}
use Rattle.sm_pool.proofs.AskingLemmas.{asks_none, done_asks}
use Rattle.sm_io.proofs.Known.{append_known-nil}
use Rattle.sm_pool.proofs.TurnLemmas.{rests_turn, starts_turn, wants_turn, works_turn}
use Rattle.sm_pool.proofs.alone.one_turn.Goals as goal

pub returns-in-Work-clause-turn : goal.returns-in-Work-clause-turn
returns-in-Work-clause-turn g c =
    let account = c.args.account.now in
    let looked = c.look-looked in
    let between = g.C.Clock.readings looked.new.clock in
    let passing : Passing = record {
      clock = record { before = g.C.Clock.readings c.args.clock.now; after = g.C.Clock.readings c.do_work.new.clock };
      words = record { before = g.W.Words.drawn c.args.words.now; after = g.W.Words.drawn c.args.words.now };
      words_count = record { before = g.W.Words.faults c.args.words.now; after = g.W.Words.faults c.args.words.now };
      rotator_count = record {
        before = g.R.Rotator.faults c.args.rotator.now;
        after = g.R.Rotator.faults c.do_work.new.rotator;
      };
    } in
    let asking : Asking = record {
      before = g.R.Rotator.told c.args.rotator.now;
      after = g.R.Rotator.told c.do_work.new.rotator;
    } in
    works_turn g.R.Rotator.replies (base account) NoGap (λ h. refl) c.args.seat looked.result.now looked.result.found
    (history account) (history looked.new.account) (history c.do_work.new.account) passing asking between
    c.do_work.result
    looked.ensures.told c.in-Work.work c.in-Work.is looked.ensures.looks
    (sym (append_known-nil (g.W.Words.drawn c.args.words.now)))
    (subst (λ (b : Base). WorkDone g.R.Rotator.replies b NoGap c.args.seat c.in-Work.work
    (record { before = between; after = passing.clock.after }) asking passing.rotator_count (history looked.new.account)
    (history c.do_work.new.account) c.do_work.result) looked.ensures.origin.base_stays
    (rw c.in-Work.work-is at c.do_work.ensures.does))

pub returns-in-Work-clause-never_stale : goal.returns-in-Work-clause-never_stale
returns-in-Work-clause-never_stale g c =
    never_stale c.args.seat (history c.args.account.now) (history c.do_work.new.account) _ _ _ c.do_work.result
    (returns-in-Work-clause-turn g c).0

pub returns-in-Work-clause-asked : goal.returns-in-Work-clause-asked
returns-in-Work-clause-asked g c =
    done_asks _ _ _ _ _ _ _ _ c.do_work.result (returns-in-Work-clause-turn g c)

pub returns-in-Due-clause-turn : goal.returns-in-Due-clause-turn
returns-in-Due-clause-turn g c =
    let account = c.args.account.now in
    let looked = c.look-looked in
    let between = g.C.Clock.readings looked.new.clock in
    let passing : Passing = record {
      clock = record { before = g.C.Clock.readings c.args.clock.now; after = g.C.Clock.readings c.start_one.new.clock };
      words = record { before = g.W.Words.drawn c.args.words.now; after = g.W.Words.drawn c.start_one.new.words };
      words_count = record {
        before = g.W.Words.faults c.args.words.now;
        after = g.W.Words.faults c.start_one.new.words;
      };
      rotator_count = record {
        before = g.R.Rotator.faults c.args.rotator.now;
        after = g.R.Rotator.faults c.args.rotator.now;
      };
    } in
    let asking : Asking = record {
      before = g.R.Rotator.told c.args.rotator.now;
      after = g.R.Rotator.told c.args.rotator.now;
    } in
    starts_turn g.R.Rotator.replies (base account) NoGap (λ h. refl) c.args.seat looked.result.now looked.result.found
    (history account) (history looked.new.account) (history c.start_one.new.account) passing asking between
    c.start_one.result looked.ensures.told c.in-Due.is looked.ensures.looks
    (subst (λ (b : Base). StartDone b NoGap c.args.seat (record { before = between; after = passing.clock.after })
    passing.words passing.words_count (history looked.new.account) (history c.start_one.new.account)
    c.start_one.result) looked.ensures.origin.base_stays c.start_one.ensures.starts)
    (asks_none (g.R.Rotator.told c.args.rotator.now))

pub returns-in-Due-clause-asked : goal.returns-in-Due-clause-asked
returns-in-Due-clause-asked g c =
    done_asks _ _ _ _ _ _ _ _ c.start_one.result (returns-in-Due-clause-turn g c)

pub returns-in-Nothing-clause-turn : goal.returns-in-Nothing-clause-turn
returns-in-Nothing-clause-turn g c =
    let account = c.args.account.now in
    let looked = c.look-looked in
    let passing : Passing = record {
      clock = record { before = g.C.Clock.readings c.args.clock.now; after = g.C.Clock.readings looked.new.clock };
      words = record { before = g.W.Words.drawn c.args.words.now; after = g.W.Words.drawn c.args.words.now };
      words_count = record { before = g.W.Words.faults c.args.words.now; after = g.W.Words.faults c.args.words.now };
      rotator_count = record {
        before = g.R.Rotator.faults c.args.rotator.now;
        after = g.R.Rotator.faults c.args.rotator.now;
      };
    } in
    let asking : Asking = record {
      before = g.R.Rotator.told c.args.rotator.now;
      after = g.R.Rotator.told c.args.rotator.now;
    } in
    rests_turn g.R.Rotator.replies (base account) NoGap (λ h. refl) c.args.seat looked.result.now looked.result.found
    passing asking (history account) (history looked.new.account) c.in-Nothing.is looked.ensures.looks
    looked.ensures.told
    (sym (append_known-nil (g.W.Words.drawn c.args.words.now))) (asks_none (g.R.Rotator.told c.args.rotator.now))

pub returns-in-Memory-clause-turn : goal.returns-in-Memory-clause-turn
returns-in-Memory-clause-turn g c =
    let account = c.args.account.now in
    let looked = c.look-looked in
    let passing : Passing = record {
      clock = record { before = g.C.Clock.readings c.args.clock.now; after = g.C.Clock.readings looked.new.clock };
      words = record { before = g.W.Words.drawn c.args.words.now; after = g.W.Words.drawn c.args.words.now };
      words_count = record { before = g.W.Words.faults c.args.words.now; after = g.W.Words.faults c.args.words.now };
      rotator_count = record {
        before = g.R.Rotator.faults c.args.rotator.now;
        after = g.R.Rotator.faults c.args.rotator.now;
      };
    } in
    let asking : Asking = record {
      before = g.R.Rotator.told c.args.rotator.now;
      after = g.R.Rotator.told c.args.rotator.now;
    } in
    wants_turn g.R.Rotator.replies (base account) NoGap (λ h. refl) c.args.seat looked.result.now looked.result.found
    passing asking (history account) (history looked.new.account) c.in-Memory.is looked.ensures.looks
    looked.ensures.told
    (sym (append_known-nil (g.W.Words.drawn c.args.words.now))) (asks_none (g.R.Rotator.told c.args.rotator.now))

pub returns-in-Memory-clause-asked : goal.returns-in-Memory-clause-asked
returns-in-Memory-clause-asked g c = inl refl
