use Rattle.sm_agent_server.proofs.ConnectionLemmas.{streams_joined}
use Rattle.sm_agent_server.proofs.laws.streams_are_one_run.Goals as goal

pub returns : goal.returns
returns c = streams_joined
