use Rattle.sm_server_tests.proofs.ReplyLemmas.{one_more}
use Rattle.sm_server_tests.proofs.script.script.Goals as goal

pub loop-reply-preserved : goal.loop-reply-preserved
loop-reply-preserved c =
    rw c.in_ok-push.ensures.ok
    (one_more c.loop-reply.list (c.status.result, c.in_ok-body.body) c.loop-reply.invariant c.status.ensures)
