use Rattle.std.proofs.Common.{subst}
use Rattle.sm_http.specs.Framed.{Sends}
use Rattle.sm_reply.specs.Shown.{Answered}
use Rattle.sm_session.specs.Replies.{framed_answer}
use Rattle.sm_agent_server.proofs.answering.answer_message.Goals as goal

pub returns-clause-turn : goal.returns-clause-turn
returns-clause-turn g c =
    let t = c.said-said.ensures in (
      t.0,
      t.1,
      t.2,
      t.3,
      subst (λ (a : Answered). Sends c.send.result (framed_answer a) (g.K.Sink.taken c.args.sink.now)
          (g.K.Sink.taken c.send.new.sink) (g.K.Sink.sink_faults c.args.sink.now)
          (g.K.Sink.sink_faults c.send.new.sink)) t.4 c.send.ensures.sent,
    )
