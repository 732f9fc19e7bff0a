use Rattle.sm_store.proofs.NamedRuns.{keeps_held}
use Rattle.sm_store.proofs.laws.a_kept_list_holds_the_same.Goals as goal

pub returns : goal.returns
returns c = keeps_held
