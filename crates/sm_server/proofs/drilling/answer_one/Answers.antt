use Rattle.sm_account.specs.Accounts.{history, base, disk}
use Rattle.sm_http.specs.Reading.{content}
use Rattle.sm_account.proofs.OriginLemmas.{same_origin, unsure_since}
use Rattle.sm_session.specs.Answer.{heard}
use Rattle.sm_session.specs.Replies.{reply_of}
use Rattle.sm_session.specs.Sessions.{LocalState}
use Rattle.sm_session.specs.Views.{local_state_by}
use Rattle.sm_server.proofs.MessageRoundsLemmas.{turns_of}
use Rattle.sm_server.proofs.drilling.answer_one.Goals as goal

pub returns-clause-turn : goal.returns-clause-turn
returns-clause-turn g c =
    let said = c.take_turn-said in
    let r = c.turns.ensures.rotated in
    let before = c.args.account.now in
    let old : LocalState = local_state_by g.C.Clock g.W.Words (history before) c.args.clock.now c.args.random.now in
    let mid : LocalState =
    local_state_by g.C.Clock g.W.Words (history said.new.account) said.new.clock said.new.random in
    let new : LocalState =
    local_state_by g.C.Clock g.W.Words (history c.turns.new.account) c.turns.new.clock c.turns.new.words in
    turns_of g.R.Rotator.replies (base before) (heard c.args.people.now (content c.args.message.now)) old mid
    (reply_of said.result) (g.D.Disk.faults (disk before)) (g.D.Disk.faults (disk said.new.account))
    (g.R.Rotator.faults c.args.rotator.now) said.ensures.turn new (g.D.Disk.faults (disk c.turns.new.account))
    (g.R.Rotator.faults c.turns.new.rotator) r.0 (base said.new.account) said.ensures.origin.base_stays
    said.ensures.disk_later r.1 r.2 r.3

pub returns-clause-origin : goal.returns-clause-origin
returns-clause-origin g c = same_origin _ _ _ c.take_turn-said.ensures.origin c.turns.ensures.origin

pub returns-clause-unsure : goal.returns-clause-unsure
returns-clause-unsure g c =
    unsure_since _ _ _ _ _ _ c.take_turn-said.ensures.unsure c.turns.ensures.unsure
    c.take_turn-said.ensures.disk_later c.turns.ensures.disk_later
