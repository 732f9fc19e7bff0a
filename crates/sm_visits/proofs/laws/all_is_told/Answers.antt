use Rattle.sm_visits.proofs.HistoryLemmas.{told_new, told_push, told_visit, told_give}
use Rattle.sm_visits.proofs.EndingLemmas.{told_open}
use Rattle.sm_visits.proofs.laws.all_is_told.Goals as goal

pub returns : goal.returns
returns c = record { begins = told_new; push = told_push; visit = told_visit; «open» = told_open; give = told_give }
