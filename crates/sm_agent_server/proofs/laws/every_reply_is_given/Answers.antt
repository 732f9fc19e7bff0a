use Rattle.sm_agent_server.proofs.ConnectionLemmas.{each_reply_given}
use Rattle.sm_agent_server.proofs.laws.every_reply_is_given.Goals as goal

pub returns : goal.returns
returns c = each_reply_given
