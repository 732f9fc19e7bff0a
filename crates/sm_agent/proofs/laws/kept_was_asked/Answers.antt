use Rattle.sm_agent.proofs.RunLemmas.{kept_was_asked}
use Rattle.sm_agent.proofs.laws.kept_was_asked.Goals as goal

pub returns : goal.returns
returns c = kept_was_asked
