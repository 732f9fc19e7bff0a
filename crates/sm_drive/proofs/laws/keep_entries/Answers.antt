use Rattle.sm_drive.proofs.RunLemmas.{entered_is_there, entries_stay, runs_join}
use Rattle.sm_drive.proofs.laws.keep_entries.Goals as goal

pub returns-clause-stay : goal.returns-clause-stay
returns-clause-stay c = entries_stay

pub returns-clause-join : goal.returns-clause-join
returns-clause-join c = runs_join

pub returns-clause-there : goal.returns-clause-there
returns-clause-there c = entered_is_there
