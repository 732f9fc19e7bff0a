use Rattle.std.proofs.Common.{refl}
use Rattle.sm_policy.proofs.SpreadLemmas.{nothing_spread}
use Rattle.sm_policy.proofs.spread.nothing.Goals as goal

pub returns : goal.returns
returns c = nothing_spread _ refl refl refl refl refl
