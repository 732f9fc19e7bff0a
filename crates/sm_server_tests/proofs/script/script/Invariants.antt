use Rattle.sm_agent.specs.Scripts.{AreReplies}
use Rattle.sm_server_tests.proofs.script.script.Given as goal

abbrev pub invariant-loop-reply : goal.invariant-loop-reply
invariant-loop-reply l = AreReplies l.list
