use Rattle.sm_visits.proofs.PlaceLemmas.{there_first, there_prepare, there_insert, there_change, there_take, there_back, there_remove}
use Rattle.sm_visits.proofs.laws.each_is_there.Goals as goal

pub returns : goal.returns
returns c start = record {
  begins = there_first;
  prepare = there_prepare;
  insert = there_insert;
  change = there_change;
  take = there_take;
  back = there_back;
  remove = there_remove;
}
