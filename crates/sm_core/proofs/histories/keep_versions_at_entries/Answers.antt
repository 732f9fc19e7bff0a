use Rattle.sm_core.proofs.TokenLemmas.{entry_stays}
use Rattle.sm_core.proofs.histories.keep_versions_at_entries.Goals as goal

pub returns : goal.returns
returns c = entry_stays
