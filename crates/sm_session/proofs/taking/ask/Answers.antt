use Rattle.std.proofs.Common.{◌≡◌, ◌<◌, ◌∙◌, Ok, length, refl, ap, subst}
use Rattle.sm_base.specs.Faults.{Rose}
use Rattle.sm_account.specs.Accounts.{base}
use Rattle.sm_account.specs.Handled.{marks_of}
use Rattle.sm_account.specs.Outcome.{Question, outcome}
use Rattle.sm_account.specs.States.{Base, state_at}
use Rattle.sm_lock.specs.Handles.{built_with, number, seen}
use Rattle.sm_model.specs.declared.request.Request.{Request}
use Rattle.sm_session.specs.declared.said.Said.TheVariants.{Memory}
use Rattle.sm_session.specs.Answer.{Asked}
use Rattle.sm_session.specs.Replies.{reply_of}
use Rattle.sm_session.specs.Sessions.{Holds, Place, LocalState}
use Rattle.sm_session.specs.Told.{told_once}
use Rattle.sm_session.specs.Views.{local_state_by}
use Rattle.sm_session.proofs.HoldLemmas.{fault_stands, is_touched, passed_behind, traced_by}
use Rattle.sm_session.proofs.TurnLemmas.{answered_by, failed_turn, forgotten_turn, reached_turn}
use Rattle.sm_session.proofs.taking.ask.Goals as goal

pub returns-in-Bytes-clause-turn : goal.returns-in-Bytes-clause-turn
returns-in-Bytes-clause-turn g c =
    let hold = c.hold_once-pass.result in
    let held : (held : Holds (base (built_with c.args.gate.now)) (number c.args.pass) (record {
      person = c.args.person.now;
      now = hold.now;
      drawn = c.as_slice.result.now;
      request = c.args.request.now;
    }) (seen c.args.pass) (seen hold.pass) hold.handled) × (hold.position ≡ length held.before) =
    subst
    (λ (r : Request). (held : Holds (base (built_with c.args.gate.now)) (number c.args.pass) (record {
      person = c.args.person.now;
      now = hold.now;
      drawn = c.as_slice.result.now;
      request = r;
    }) (seen c.args.pass) (seen hold.pass) hold.handled) × (hold.position ≡ length held.before)) c.new-tested.ensures
    c.hold_once-pass.ensures.holds in
    let asked : Asked = record { person = c.args.person.now; request = c.args.request.now } in
    let question : Question = record {
      person = c.args.person.now;
      now = c.hold_once-pass.result.now;
      drawn = c.as_slice.result.now;
      request = c.args.request.now;
    } in
    let built : Base = base (built_with c.args.gate.now) in
    let outcome' = outcome (state_at built held.0.before) question in
    let handled = c.hold_once-pass.result.handled in
    let marks = marks_of handled outcome' in
    let reply = reply_of c.say_handled-said.result in
    let random = Rose (g.W.Words.faults c.args.words.now) (g.W.Words.faults c.draw.new.random) in
    record {
      taken = record {
        before = held.0.before;
        told = told_once c.hold_once-pass.result.now.0 c.in-Bytes.drawn;
        marks = marks;
        gap = held.0.gap;
        still = is_touched c.hold_once-pass.result.now.0 c.in-Bytes.drawn reply marks
            (held.0.before ≡ seen c.args.pass);
        right = reached_turn (Unit {0}) random built held.0.before asked c.hold_once-pass.result.now.0
            c.in-Bytes.drawn c.as_slice.result.now reply marks c.as_slice.ensures
            (c.in-Bytes.ensures.exactly ∙ c.need.ensures)
            (answered_by (Unit {0}) c.say_handled-said.result handled outcome' held.0.answers (fault_stands handled)
            c.say_handled-said.ensures);
        stands = held.0.stands;
        readings = c.hold_once-pass.ensures.told;
        drawn = c.in-Bytes.ensures.bytes;
        later = c.draw.ensures.later;
      };
      traced = traced_by _ _ c.hold_once-pass.result.now c.in-Bytes.drawn _ _ held.1 c.status_of-status.ensures;
    }

pub returns-in-Failed-clause-turn : goal.returns-in-Failed-clause-turn
returns-in-Failed-clause-turn g c =
    let place : Place = record { base = base (built_with c.args.gate.now); seat = number c.args.pass } in
    let asked : Asked = record { person = c.args.person.now; request = c.args.request.now } in
    let old : LocalState = local_state_by g.C.Clock g.W.Words (seen c.args.pass) c.args.clock.now c.args.words.now in
    let new : LocalState = local_state_by g.C.Clock g.W.Words (seen c.pass_by.result.pass) c.args.clock.now
    c.draw.new.random in
    passed_behind place (Ok asked) old new c.say_refusal.result c.pass_by.result.said c.pass_by.result.item
    (ap seen c.pass_by.ensures.pass) refl c.in-Failed.ensures.bytes c.draw.ensures.later c.pass_by.ensures.said
    (failed_turn (Unit {0}) (Rose old.random new.random) place.base old.seen asked c.say_refusal.result
    (subst (λ n. 0 < n) c.need.ensures c.in-Failed.ensures.wanted) c.in-Failed.ensures.failed c.say_refusal.ensures)
    c.pass_by.ensures.item

pub returns-in-Memory-clause-turn : goal.returns-in-Memory-clause-turn
returns-in-Memory-clause-turn g c =
    let place : Place = record { base = base (built_with c.args.gate.now); seat = number c.args.pass } in
    let asked : Asked = record { person = c.args.person.now; request = c.args.request.now } in
    let passed = c.pass_by-in-Memory in
    let old : LocalState = local_state_by g.C.Clock g.W.Words (seen c.args.pass) c.args.clock.now c.args.words.now in
    let new : LocalState =
    local_state_by g.C.Clock g.W.Words (seen passed.result.pass) c.args.clock.now c.draw.new.random in
    passed_behind place (Ok asked) old new Memory passed.result.said passed.result.item (ap seen passed.ensures.pass)
    refl c.in-Memory.ensures.bytes c.draw.ensures.later passed.ensures.said
    (forgotten_turn (Unit {0}) (Rose old.random new.random) place.base old.seen (Ok asked)) passed.ensures.item
