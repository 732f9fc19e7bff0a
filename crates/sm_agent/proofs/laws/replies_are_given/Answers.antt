use Rattle.sm_agent.proofs.ExchangeLemmas.{replies_are_given}
use Rattle.sm_agent.proofs.laws.replies_are_given.Goals as goal

pub returns : goal.returns
returns c = replies_are_given
