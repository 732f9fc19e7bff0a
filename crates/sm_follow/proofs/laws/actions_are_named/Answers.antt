use Rattle.sm_follow.proofs.ActionLemmas.{actions_named}
use Rattle.sm_follow.proofs.laws.actions_are_named.Goals as goal

pub returns : goal.returns
returns c = actions_named
