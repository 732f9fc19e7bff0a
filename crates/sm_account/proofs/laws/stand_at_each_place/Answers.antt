use Rattle.sm_account.proofs.VouchLemmas.{prefixes_stand}
use Rattle.sm_account.proofs.laws.stand_at_each_place.Goals as goal

pub returns : goal.returns
returns c = prefixes_stand
