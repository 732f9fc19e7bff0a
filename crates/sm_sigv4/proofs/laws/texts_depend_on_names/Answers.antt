use Rattle.sm_sigv4.proofs.SignLemmas.{by_names_alone}
use Rattle.sm_sigv4.proofs.laws.texts_depend_on_names.Goals as goal

pub returns : goal.returns
returns c = by_names_alone
