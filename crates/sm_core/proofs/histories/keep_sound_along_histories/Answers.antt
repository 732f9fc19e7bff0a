use Rattle.sm_core.proofs.HistoryLemmas.{legal_keeps}
use Rattle.sm_core.proofs.histories.keep_sound_along_histories.Goals as goal

pub returns : goal.returns
returns c = legal_keeps
