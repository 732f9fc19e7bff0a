use Rattle.sm_versions.proofs.TextLemmas.{same_text_from_equals}
use Rattle.sm_forms.proofs.key_order.is_same.Goals as goal

pub returns : goal.returns
returns c = same_text_from_equals _ _ _ c.equals.ensures
