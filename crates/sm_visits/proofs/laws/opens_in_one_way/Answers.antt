use Rattle.sm_visits.proofs.OneWayLemmas.{one_way}
use Rattle.sm_visits.proofs.laws.opens_in_one_way.Goals as goal

pub returns : goal.returns
returns c = one_way
