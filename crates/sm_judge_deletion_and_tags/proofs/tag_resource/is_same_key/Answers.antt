use Rattle.sm_versions.proofs.TextLemmas.{same_text_from_equals}
use Rattle.sm_judge_deletion_and_tags.proofs.tag_resource.is_same_key.Goals as goal

pub returns : goal.returns
returns c = same_text_from_equals _ _ _ c.equals.ensures
