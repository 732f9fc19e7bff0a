use Rattle.std.proofs.Common.{◌≡◌, ◌∙◌, ◌++◌, sym, ap, subst, length}
use Rattle.sm_account.specs.Accounts.{history, base, state}
use Rattle.sm_account.specs.Handled.{HandledAs, marks_of}
use Rattle.sm_account.specs.History.{by_seat}
use Rattle.sm_account.specs.Outcome.{Outcome, Question, outcome}
use Rattle.sm_account.specs.States.{Base, state_at}
use Rattle.sm_lock.specs.Handles.{built_with, entered, holder, seen}
use Rattle.sm_account.specs.SeatTraces.{History}
use Rattle.sm_session.proofs.HoldLemmas.{at_most_one}
use Rattle.sm_account.proofs.OriginLemmas.{origin_of, origin_stays, same_base}
use Rattle.sm_session.proofs.holding.hold_once.Goals as goal

pub leave-requires-clause-origin : goal.leave-requires-clause-origin
leave-requires-clause-origin g c =
    origin_stays c.value-2.result.now c.handle_tested-handled.new.self c.handle_tested-handled.ensures.origin
    ∙ ap origin_of (c.value-2.ensures.value ∙ c.value.ensures.value) ∙ c.enter-held.ensures.origin

pub leave-requires-clause-entry : goal.leave-requires-clause-entry
leave-requires-clause-entry g c =
    let h = c.handle_tested-handled in
    let held = c.enter-held.result in
    let question : Question = record {
      person = c.args.person.now;
      now = c.now-now.result;
      drawn = c.args.drawn.now;
      request = c.args.tested.request.now;
    } in
    let wanted : Outcome = outcome (state c.value-2.result.now) question in
    let marks = marks_of h.result wanted in
    let before : history c.value-2.result.now ≡ entered held =
    ap history (c.value-2.ensures.value ∙ c.value.ensures.value) ∙ sym c.enter-held.ensures.entered in
    at_most_one (holder held) (entered held) (history h.new.self) h.result wanted (h.ensures.history
    ∙ ap (λ b. b ++ by_seat c.seat-seat.result marks) before
    ∙ ap (λ s. entered held ++ by_seat s marks) (c.seat-seat.ensures ∙ sym c.enter-held.ensures.holder))

pub returns-clause-holds : goal.returns-clause-holds
returns-clause-holds g c =
    let h = c.handle_tested-handled in
    let held = c.enter-held.result in
    let question : Question = record {
      person = c.args.person.now;
      now = c.now-now.result;
      drawn = c.args.drawn.now;
      request = c.args.tested.request.now;
    } in
    let before : History = history held.value.value in
    let stood : c.value-2.result.now ≡ held.value.value = c.value-2.ensures.value ∙ c.value.ensures.value in
    let built : Base = base (built_with c.args.gate.now) in
    let based : base held.value.value ≡ built =
    same_base held.value.value (built_with c.args.gate.now) c.enter-held.ensures.origin in (
      record {
        before = before;
        gap = c.enter-held.ensures.seen;
        answers = subst (λ b. HandledAs h.result (outcome (state_at b before) question)) based
            (subst (λ a. HandledAs h.result (outcome (state a) question)) stood h.ensures.handled);
        stands = c.leave.ensures.seen ∙ subst
            (λ s. history h.new.self
            ≡ before ++ by_seat s (marks_of h.result (outcome (state_at built before) question)))
            c.seat-seat.ensures (subst
            (λ b. history h.new.self
            ≡ before ++ by_seat c.seat-seat.result (marks_of h.result (outcome (state_at b before) question))) based
            (subst
            (λ a. history h.new.self
            ≡ history a ++ by_seat c.seat-seat.result (marks_of h.result (outcome (state a) question))) stood
            h.ensures.history));
      },
      c.length-position.ensures ∙ ap (λ a. length (history a)) c.value.ensures.value,
    )
