use Rattle.std.proofs.Common.{Result, refl, sym, ap, subst, arith}
use Rattle.sm_base.specs.Faults.{Rose}
use Rattle.sm_model.specs.declared.why.Why.{Why}
use Rattle.sm_account.specs.Accounts.{base}
use Rattle.sm_http.specs.Reading.{content}
use Rattle.sm_lock.specs.Handles.{built_with, number, seen}
use Rattle.sm_session.specs.declared.said.Said.TheVariants.{Memory}
use Rattle.sm_session.specs.Answer.{Asked, heard}
use Rattle.sm_session.specs.Replies.{reply_of}
use Rattle.sm_session.specs.Sessions.{Place, LocalState, TakesTurn}
use Rattle.sm_session.specs.Turns.{IsTurn}
use Rattle.sm_session.specs.Views.{local_state_by}
use Rattle.sm_session.proofs.HoldLemmas.{passed_behind}
use Rattle.sm_session.proofs.TurnLemmas.{forgotten_turn, refused_turn, untouched}
use Rattle.sm_session.proofs.taking.take_turn.Goals as goal

pub returns-in-Ask-clause-turn : goal.returns-in-Ask-clause-turn
returns-in-Ask-clause-turn g c =
    let place : Place = record { base = base (built_with c.args.gate.now); seat = number c.args.pass } in
    let old : LocalState = local_state_by g.C.Clock g.W.Words (seen c.args.pass) c.args.clock.now c.args.words.now in
    let new : LocalState =
    local_state_by g.C.Clock g.W.Words (seen c.ask.result.pass) c.ask.new.clock c.ask.new.words in
    subst (λ (w : Result Asked Why). TakesTurn place w old new (reply_of c.ask.result.said) c.ask.result.item)
    (sym c.in-Ask.ensures.hears) c.ask.ensures.turn

pub returns-in-Refused-clause-turn : goal.returns-in-Refused-clause-turn
returns-in-Refused-clause-turn g c =
    let place : Place = record { base = base (built_with c.args.gate.now); seat = number c.args.pass } in
    let old : LocalState = local_state_by g.C.Clock g.W.Words (seen c.args.pass) c.args.clock.now c.args.words.now in
    let new : LocalState = record old { seen = seen c.pass_by.result.pass } in
    let said = c.say_refusal in
    passed_behind place (heard c.args.people.now (content c.args.message.now)) old new said.result
    c.pass_by.result.said c.pass_by.result.item (ap seen c.pass_by.ensures.pass) refl refl (omega arith)
    c.pass_by.ensures.said
    (subst (λ (w : Result Asked Why). IsTurn (Unit {0}) (Rose old.random new.random) place.base old.seen w
    (untouched (reply_of said.result))) (sym c.in-Refused.ensures.hears)
    (refused_turn (Unit {0}) (Rose old.random new.random) place.base old.seen c.in-Refused.why said.result
    said.ensures))
    c.pass_by.ensures.item

pub returns-in-Memory-clause-turn : goal.returns-in-Memory-clause-turn
returns-in-Memory-clause-turn g c =
    let place : Place = record { base = base (built_with c.args.gate.now); seat = number c.args.pass } in
    let wanted : Result Asked Why = heard c.args.people.now (content c.args.message.now) in
    let passed = c.pass_by-in-Memory in
    let old : LocalState = local_state_by g.C.Clock g.W.Words (seen c.args.pass) c.args.clock.now c.args.words.now in
    let new : LocalState = record old { seen = seen passed.result.pass } in
    passed_behind place wanted old new Memory passed.result.said passed.result.item (ap seen passed.ensures.pass) refl
    refl (omega arith) passed.ensures.said
    (forgotten_turn (Unit {0}) (Rose old.random new.random) place.base old.seen wanted) passed.ensures.item
