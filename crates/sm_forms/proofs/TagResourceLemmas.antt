-- What it says of a TagResource that its forms pass.
use Rattle.std.proofs.Common.{◌≡◌, None}
use Rattle.std.specs.Prelude.{IsTrue}
use Rattle.std.proofs.lemmas.Bool.{and_parts}
use Rattle.sm_model.specs.declared.request.TagResource.{TagResource}
use Rattle.sm_base.specs.Spelling.{is_secret_id}
use Rattle.sm_versions.specs.Texts.{once}
use Rattle.sm_versions.specs.Sound.{tag_keys, each_tag}
use Rattle.sm_forms.specs.Members.{are_tags}
use Rattle.sm_forms.specs.TagResource.{tag_forms}
use Rattle.sm_forms.proofs.MemberLemmas.{none_first, passes}

pub tag_id : (tag : TagResource) → tag_forms tag ≡ None → IsTrue (is_secret_id tag.secret_id)
tag_id tag h = passes (is_secret_id tag.secret_id) _ (none_first _ _ h).0

pub tag_tags : (tag : TagResource) → tag_forms tag ≡ None
    → IsTrue (each_tag tag.tags) × IsTrue (once (tag_keys tag.tags))
tag_tags tag h =
    and_parts (each_tag tag.tags) (once (tag_keys tag.tags)) (passes (are_tags tag.tags) _ (none_first _ _ h).1)
