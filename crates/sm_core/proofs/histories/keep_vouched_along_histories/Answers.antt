use Rattle.sm_core.proofs.VouchedLemmas.{legal_vouched}
use Rattle.sm_core.proofs.histories.keep_vouched_along_histories.Goals as goal

pub returns : goal.returns
returns c = legal_vouched
