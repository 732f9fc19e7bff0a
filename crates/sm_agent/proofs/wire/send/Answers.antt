use Rattle.sm_agent.proofs.LinkLemmas.{sent_all, sent_more}
use Rattle.sm_agent.proofs.wire.send.Goals as goal

pub loop-sent-preserved : goal.loop-sent-preserved
loop-sent-preserved g c =
    sent_more c.args.bytes.now c.loop-sent.sent c.in-Ok.count (g.S.Write.contents c.args.stream.now)
    (g.S.Write.contents c.loop-sent.stream) (g.S.Write.contents c.write.new.self) c.loop-sent.invariant.0
    c.in-Ok.ensures.bound c.loop-sent.invariant.1 c.in-Ok.ensures.bytes
