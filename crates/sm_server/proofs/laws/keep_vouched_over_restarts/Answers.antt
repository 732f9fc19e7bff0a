use Rattle.sm_server.proofs.StoredLemmas.{vouched_again}
use Rattle.sm_server.proofs.laws.keep_vouched_over_restarts.Goals as goal

pub returns : goal.returns
returns c = vouched_again
