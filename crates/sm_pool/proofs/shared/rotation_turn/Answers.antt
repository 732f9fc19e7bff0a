use Rattle.std.proofs.Common.{[], ◌∷◌, ◌∙◌, refl, sym, subst, inl}
use Rattle.sm_account.specs.Accounts.{base}
use Rattle.sm_lock.specs.Handles.{built_with, number, seen}
use Rattle.sm_lock.specs.Story.{Grows}
use Rattle.sm_lock.proofs.Stories.{grows-same}
use Rattle.sm_pool.specs.Asking.{Asking}
use Rattle.sm_pool.specs.Turns.{Passing, StartDone, WorkDone, holds_of}
use Rattle.sm_pool.proofs.AskingLemmas.{asks_none, done_asks}
use Rattle.sm_pool.proofs.BehindLemmas.{holds_mine}
use Rattle.sm_io.proofs.Known.{append_known-nil}
use Rattle.sm_pool.proofs.TurnLemmas.{rests_turn, starts_turn, wants_turn, works_turn}
use Rattle.sm_pool.proofs.shared.rotation_turn.Goals as goal

pub returns-in-Work-clause-turn : goal.returns-in-Work-clause-turn
returns-in-Work-clause-turn g c =
    let pass = c.args.pass in
    let looked = c.look_behind-pass in
    let found = looked.result.looked.found in
    let passing : Passing = record {
      clock = record {
        before = g.C.Clock.readings c.args.clock.now;
        after = g.C.Clock.readings c.work_behind.new.clock;
      };
      words = record { before = g.W.Words.drawn c.args.words.now; after = g.W.Words.drawn c.args.words.now };
      words_count = record { before = g.W.Words.faults c.args.words.now; after = g.W.Words.faults c.args.words.now };
      rotator_count = record {
        before = g.R.Rotator.faults c.args.rotator.now;
        after = g.R.Rotator.faults c.work_behind.new.rotator;
      };
    } in
    let asking : Asking = record {
      before = g.R.Rotator.told c.args.rotator.now;
      after = g.R.Rotator.told c.work_behind.new.rotator;
    } in
    let told = works_turn g.R.Rotator.replies (base (built_with c.args.gate.now)) (Grows (number c.args.pass ∷ []))
    (grows-same (number c.args.pass ∷ [])) (number pass) looked.result.looked.now found
    (seen pass) (seen looked.result.pass) (seen c.work_behind.result.pass) passing asking
    (g.C.Clock.readings looked.new.clock) c.work_behind.result.done looked.ensures.told
    c.in-Work.work c.in-Work.is looked.ensures.looks
    (sym (append_known-nil (g.W.Words.drawn c.args.words.now)))
    (subst (λ n. WorkDone g.R.Rotator.replies (base (built_with c.args.gate.now)) (Grows (n ∷ [])) n c.in-Work.work
    (record { before = g.C.Clock.readings looked.new.clock; after = passing.clock.after }) asking passing.rotator_count
    (seen looked.result.pass)
    (seen c.work_behind.result.pass) c.work_behind.result.done) looked.ensures.number
    (rw c.in-Work.work-is at c.work_behind.ensures.does)) in (
      told.0,
      holds_mine c.args.gate.now pass c.work_behind.result.pass (holds_of told.0.course) c.requires
          c.work_behind.ensures.gate (c.work_behind.ensures.number ∙ looked.ensures.number) told.0.seat_trace,
      told.1,
    )

pub returns-in-Work-clause-asked : goal.returns-in-Work-clause-asked
returns-in-Work-clause-asked g c =
    let told = returns-in-Work-clause-turn g c in
    done_asks _ _ _ _ _ _ _ _ c.work_behind.result.done (told.0, told.2)

pub returns-in-Due-clause-turn : goal.returns-in-Due-clause-turn
returns-in-Due-clause-turn g c =
    let pass = c.args.pass in
    let looked = c.look_behind-pass in
    let found = looked.result.looked.found in
    let passing : Passing = record {
      clock = record {
        before = g.C.Clock.readings c.args.clock.now;
        after = g.C.Clock.readings c.draw_behind.new.clock;
      };
      words = record { before = g.W.Words.drawn c.args.words.now; after = g.W.Words.drawn c.draw_behind.new.words };
      words_count = record {
        before = g.W.Words.faults c.args.words.now;
        after = g.W.Words.faults c.draw_behind.new.words;
      };
      rotator_count = record {
        before = g.R.Rotator.faults c.args.rotator.now;
        after = g.R.Rotator.faults c.args.rotator.now;
      };
    } in
    let asking : Asking = record {
      before = g.R.Rotator.told c.args.rotator.now;
      after = g.R.Rotator.told c.args.rotator.now;
    } in
    let told = starts_turn g.R.Rotator.replies (base (built_with c.args.gate.now)) (Grows (number c.args.pass ∷ []))
    (grows-same (number c.args.pass ∷ [])) (number pass) looked.result.looked.now found
    (seen pass) (seen looked.result.pass) (seen c.draw_behind.result.pass) passing asking
    (g.C.Clock.readings looked.new.clock) c.draw_behind.result.done looked.ensures.told
    c.in-Due.is looked.ensures.looks
    (subst (λ n. StartDone (base (built_with c.args.gate.now)) (Grows (n ∷ [])) n
    (record { before = g.C.Clock.readings looked.new.clock; after = passing.clock.after }) passing.words
    passing.words_count (seen looked.result.pass) (seen c.draw_behind.result.pass) c.draw_behind.result.done)
    looked.ensures.number c.draw_behind.ensures.starts) (asks_none (g.R.Rotator.told c.args.rotator.now)) in (
      told.0,
      holds_mine c.args.gate.now pass c.draw_behind.result.pass (holds_of told.0.course) c.requires
          c.draw_behind.ensures.gate (c.draw_behind.ensures.number ∙ looked.ensures.number) told.0.seat_trace,
      told.1,
    )

pub returns-in-Due-clause-asked : goal.returns-in-Due-clause-asked
returns-in-Due-clause-asked g c =
    let told = returns-in-Due-clause-turn g c in
    done_asks _ _ _ _ _ _ _ _ c.draw_behind.result.done (told.0, told.2)

pub returns-in-Nothing-clause-turn : goal.returns-in-Nothing-clause-turn
returns-in-Nothing-clause-turn g c =
    let pass = c.args.pass in
    let looked = c.look_behind-pass in
    let found = looked.result.looked.found in
    let passing : Passing = record {
      clock = record {
        before = g.C.Clock.readings c.args.clock.now;
        after = g.C.Clock.readings c.look_behind-pass.new.clock;
      };
      words = record { before = g.W.Words.drawn c.args.words.now; after = g.W.Words.drawn c.args.words.now };
      words_count = record { before = g.W.Words.faults c.args.words.now; after = g.W.Words.faults c.args.words.now };
      rotator_count = record {
        before = g.R.Rotator.faults c.args.rotator.now;
        after = g.R.Rotator.faults c.args.rotator.now;
      };
    } in
    let asking : Asking = record {
      before = g.R.Rotator.told c.args.rotator.now;
      after = g.R.Rotator.told c.args.rotator.now;
    } in
    let told = rests_turn g.R.Rotator.replies (base (built_with c.args.gate.now)) (Grows (number c.args.pass ∷ []))
    (grows-same (number c.args.pass ∷ [])) (number pass) looked.result.looked.now found
    passing asking (seen pass) (seen c.look_behind-pass.result.pass) c.in-Nothing.is looked.ensures.looks
    looked.ensures.told
    (sym (append_known-nil (g.W.Words.drawn c.args.words.now))) (asks_none (g.R.Rotator.told c.args.rotator.now)) in (
      told.0,
      holds_mine c.args.gate.now pass c.look_behind-pass.result.pass (holds_of told.0.course) c.requires
          looked.ensures.gate looked.ensures.number told.0.seat_trace,
      told.1,
    )

pub returns-in-Memory-clause-turn : goal.returns-in-Memory-clause-turn
returns-in-Memory-clause-turn g c =
    let pass = c.args.pass in
    let looked = c.look_behind-pass in
    let found = looked.result.looked.found in
    let passing : Passing = record {
      clock = record {
        before = g.C.Clock.readings c.args.clock.now;
        after = g.C.Clock.readings c.look_behind-pass.new.clock;
      };
      words = record { before = g.W.Words.drawn c.args.words.now; after = g.W.Words.drawn c.args.words.now };
      words_count = record { before = g.W.Words.faults c.args.words.now; after = g.W.Words.faults c.args.words.now };
      rotator_count = record {
        before = g.R.Rotator.faults c.args.rotator.now;
        after = g.R.Rotator.faults c.args.rotator.now;
      };
    } in
    let asking : Asking = record {
      before = g.R.Rotator.told c.args.rotator.now;
      after = g.R.Rotator.told c.args.rotator.now;
    } in
    let told = wants_turn g.R.Rotator.replies (base (built_with c.args.gate.now)) (Grows (number c.args.pass ∷ []))
    (grows-same (number c.args.pass ∷ [])) (number pass) looked.result.looked.now found
    passing asking (seen pass) (seen c.look_behind-pass.result.pass) c.in-Memory.is looked.ensures.looks
    looked.ensures.told
    (sym (append_known-nil (g.W.Words.drawn c.args.words.now))) (asks_none (g.R.Rotator.told c.args.rotator.now)) in (
      told.0,
      holds_mine c.args.gate.now pass c.look_behind-pass.result.pass (holds_of told.0.course) c.requires
          looked.ensures.gate looked.ensures.number told.0.seat_trace,
      told.1,
    )

pub returns-in-Memory-clause-asked : goal.returns-in-Memory-clause-asked
returns-in-Memory-clause-asked g c = inl refl
