use Rattle.std.proofs.Common.{sym, subst, refl, arith, Result}
use Rattle.sm_base.specs.Faults.{Rose}
use Rattle.sm_model.specs.declared.why.Why.{Why}
use Rattle.sm_account.specs.Accounts.{base, history, disk}
use Rattle.sm_http.specs.Reading.{content}
use Rattle.sm_account.specs.SeatTraces.{NoGap}
use Rattle.sm_session.specs.Answer.{Asked, heard}
use Rattle.sm_session.specs.Replies.{reply_of, unavailable}
use Rattle.sm_session.specs.Sessions.{Place, LocalState, TakesTurnAlone}
use Rattle.sm_session.specs.Turns.{IsTurn}
use Rattle.sm_session.specs.Views.{local_state_by}
use Rattle.sm_session.proofs.HoldLemmas.{passed_by}
use Rattle.sm_session.proofs.TurnLemmas.{refused_turn, forgotten_turn, untouched}
use Rattle.sm_server.specs.MessageRounds.{seat}
use Rattle.sm_server.proofs.turn.take_turn.Goals as goal

pub returns-in-Ask-clause-turn : goal.returns-in-Ask-clause-turn
returns-in-Ask-clause-turn g c =
    let d = c.draw_and_answer in
    let place : Place = record { base = base c.args.account.now; seat = seat } in
    let rose = Rose (g.D.Disk.faults (disk c.args.account.now)) (g.D.Disk.faults (disk d.new.account)) in
    let old : LocalState =
    local_state_by g.C.Clock g.W.Words (history c.args.account.now) c.args.clock.now c.args.random.now in
    let new : LocalState = local_state_by g.C.Clock g.W.Words (history d.new.account) d.new.clock d.new.random in
    subst (λ (w : Result Asked Why). TakesTurnAlone rose place w old new (reply_of d.result))
    (sym c.in-Ask.ensures.hears) d.ensures.turn

pub returns-in-Refused-clause-turn : goal.returns-in-Refused-clause-turn
returns-in-Refused-clause-turn g c =
    let faults = g.D.Disk.faults (disk c.args.account.now) in
    let place : Place = record { base = base c.args.account.now; seat = seat } in
    let at : LocalState =
    local_state_by g.C.Clock g.W.Words (history c.args.account.now) c.args.clock.now c.args.random.now in
    let said = c.say_refusal in
    passed_by NoGap (Rose faults faults) place (heard c.args.people.now (content c.args.message.now)) at at
    (reply_of said.result) refl refl refl refl (omega arith)
    (subst (λ (w : Result Asked Why). IsTurn (Rose faults faults) (Rose at.random at.random) place.base at.seen w
    (untouched (reply_of said.result))) (sym c.in-Refused.ensures.hears)
    (refused_turn (Rose faults faults) (Rose at.random at.random) place.base at.seen c.in-Refused.why said.result
    said.ensures))

pub returns-in-Memory-clause-turn : goal.returns-in-Memory-clause-turn
returns-in-Memory-clause-turn g c =
    let faults = g.D.Disk.faults (disk c.args.account.now) in
    let place : Place = record { base = base c.args.account.now; seat = seat } in
    let wanted : Result Asked Why = heard c.args.people.now (content c.args.message.now) in
    let at : LocalState =
    local_state_by g.C.Clock g.W.Words (history c.args.account.now) c.args.clock.now c.args.random.now in
    passed_by NoGap (Rose faults faults) place wanted at at unavailable refl refl refl refl (omega arith)
    (forgotten_turn (Rose faults faults) (Rose at.random at.random) place.base at.seen wanted)
