use Rattle.sm_core.proofs.TokenLemmas.{legal_once}
use Rattle.sm_core.proofs.histories.let_tokens_act_once.Goals as goal

pub returns : goal.returns
returns c = legal_once
