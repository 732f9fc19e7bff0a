use Rattle.sm_visits.proofs.HistoryLemmas.{visit_is_whole, message_has_bytes}
use Rattle.sm_visits.proofs.EndingLemmas.{last_visit_is_read}
use Rattle.sm_visits.proofs.laws.visits_are_whole.Goals as goal

pub returns : goal.returns
returns c = record { whole = visit_is_whole; last = last_visit_is_read; bytes = message_has_bytes }
