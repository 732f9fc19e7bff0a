use Rattle.sm_visits.proofs.PlaceLemmas.{found_is_told, bytes_insert, bytes_change, bytes_take, bytes_remove}
use Rattle.sm_visits.proofs.laws.bytes_are_their_own.Goals as goal

pub returns : goal.returns
returns c start = record {
  found = found_is_told;
  insert = bytes_insert;
  change = bytes_change;
  take = bytes_take;
  remove = bytes_remove;
}
