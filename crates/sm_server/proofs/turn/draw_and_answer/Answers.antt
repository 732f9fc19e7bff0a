use Rattle.std.proofs.Common.{◌∙◌, refl, subst, ◌<◌, Ok}
use Rattle.sm_base.specs.Faults.{Rose}
use Rattle.sm_account.specs.Accounts.{base, history, disk}
use Rattle.sm_account.specs.SeatTraces.{NoGap}
use Rattle.sm_session.specs.Answer.{Asked}
use Rattle.sm_session.specs.Replies.{reply_of, unavailable}
use Rattle.sm_session.specs.Sessions.{Place, LocalState}
use Rattle.sm_session.specs.Told.{told_once}
use Rattle.sm_session.specs.Views.{local_state_by}
use Rattle.sm_session.proofs.HoldLemmas.{passed_by}
use Rattle.sm_session.proofs.TurnLemmas.{failed_turn, forgotten_turn, reached_turn}
use Rattle.sm_server.specs.MessageRounds.{seat}
use Rattle.sm_server.proofs.turn.draw_and_answer.Goals as goal

pub returns-in-Bytes-clause-turn : goal.returns-in-Bytes-clause-turn
returns-in-Bytes-clause-turn g c =
    let t = c.turn.ensures.turn in
    let asked : Asked = record { person = c.args.person.now; request = c.args.request.now } in
    record {
      before = history c.args.account.now;
      told = told_once c.now-now.result.0 c.in-Bytes.bytes;
      marks = t.0;
      gap = refl;
      still = λ untold. refl;
      right = reached_turn
          (Rose (g.D.Disk.faults (disk c.args.account.now)) (g.D.Disk.faults (disk c.turn.new.account)))
          (Rose (g.W.Words.faults c.args.random.now) (g.W.Words.faults c.draw.new.random)) (base c.args.account.now)
          (history c.args.account.now) asked c.now-now.result.0 c.in-Bytes.bytes c.as_slice.result.now
          (reply_of c.turn.result) t.0 c.as_slice.ensures (c.in-Bytes.ensures.exactly ∙ c.need.ensures) t.1;
      stands = t.2;
      readings = c.now-now.ensures.told;
      drawn = c.in-Bytes.ensures.bytes;
      later = c.draw.ensures.later;
    }

pub returns-in-Failed-clause-turn : goal.returns-in-Failed-clause-turn
returns-in-Failed-clause-turn g c =
    let faults = g.D.Disk.faults (disk c.args.account.now) in
    let place : Place = record { base = base c.args.account.now; seat = seat } in
    let asked : Asked = record { person = c.args.person.now; request = c.args.request.now } in
    let old : LocalState =
    local_state_by g.C.Clock g.W.Words (history c.args.account.now) c.args.clock.now c.args.random.now in
    let new : LocalState =
    local_state_by g.C.Clock g.W.Words (history c.args.account.now) c.args.clock.now c.draw.new.random in
    passed_by NoGap (Rose faults faults) place (Ok asked) old new (reply_of c.say_refusal.result) refl refl refl
    c.in-Failed.ensures.bytes c.draw.ensures.later
    (failed_turn (Rose faults faults) (Rose old.random new.random) place.base old.seen asked c.say_refusal.result
    (subst (λ n. 0 < n) c.need.ensures c.in-Failed.ensures.wanted) c.in-Failed.ensures.failed c.say_refusal.ensures)

pub returns-in-Memory-clause-turn : goal.returns-in-Memory-clause-turn
returns-in-Memory-clause-turn g c =
    let faults = g.D.Disk.faults (disk c.args.account.now) in
    let place : Place = record { base = base c.args.account.now; seat = seat } in
    let asked : Asked = record { person = c.args.person.now; request = c.args.request.now } in
    let old : LocalState =
    local_state_by g.C.Clock g.W.Words (history c.args.account.now) c.args.clock.now c.args.random.now in
    let new : LocalState =
    local_state_by g.C.Clock g.W.Words (history c.args.account.now) c.args.clock.now c.draw.new.random in
    passed_by NoGap (Rose faults faults) place (Ok asked) old new unavailable refl refl refl
    c.in-Memory.ensures.bytes c.draw.ensures.later
    (forgotten_turn (Rose faults faults) (Rose old.random new.random) place.base old.seen (Ok asked))
