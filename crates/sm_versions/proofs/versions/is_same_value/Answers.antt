use Rattle.sm_versions.proofs.VersionLemmas.{same_value_from_equals}
use Rattle.sm_versions.proofs.versions.is_same_value.Goals as goal

pub returns : goal.returns
returns c = same_value_from_equals _ _ _ c.equals.ensures
