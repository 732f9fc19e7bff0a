use Rattle.sm_visits.proofs.EndingLemmas.{ended_push, ended_visit, ended_open, ended_give}
use Rattle.sm_visits.proofs.laws.the_last_stays.Goals as goal

pub returns : goal.returns
returns c = record { push = ended_push; visit = ended_visit; «open» = ended_open; give = ended_give }
