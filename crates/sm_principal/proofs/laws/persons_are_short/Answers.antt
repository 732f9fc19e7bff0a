use Rattle.sm_principal.proofs.BoundLemmas.{people_short, caller_short}
use Rattle.sm_principal.proofs.laws.persons_are_short.Goals as goal

pub returns : goal.returns
returns c = record { read = people_short; callers = caller_short }
