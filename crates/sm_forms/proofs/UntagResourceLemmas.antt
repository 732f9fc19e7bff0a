-- What it says of an UntagResource that its forms pass.
use Rattle.std.proofs.Common.{◌≡◌, ◌≤◌, length, nat_le, None, arith}
use Rattle.std.specs.Prelude.{IsTrue}
use Rattle.std.specs.List.{list_all}
use Rattle.std.proofs.lemmas.Bool.{and_parts}
use Rattle.std.proofs.lemmas.Bool.Decides.{nat_tests}
use Rattle.sm_base.specs.declared.limits.TheConstants.{TAGS_LIMIT}
use Rattle.sm_model.specs.declared.request.UntagResource.{UntagResource}
use Rattle.sm_base.specs.Spelling.{is_secret_id}
use Rattle.sm_forms.specs.UntagResource.{is_untag_key, are_untag_keys, untag_forms}
use Rattle.sm_forms.proofs.MemberLemmas.{none_first, passes}

pub untag_id : (untag : UntagResource) → untag_forms untag ≡ None → IsTrue (is_secret_id untag.secret_id)
untag_id untag h = passes (is_secret_id untag.secret_id) _ (none_first _ _ h).0

keys_pass : (untag : UntagResource) → untag_forms untag ≡ None
    → IsTrue (nat_le (length untag.tag_keys) TAGS_LIMIT) × IsTrue (list_all is_untag_key untag.tag_keys)
keys_pass untag h =
    and_parts (nat_le (length untag.tag_keys) TAGS_LIMIT) (list_all is_untag_key untag.tag_keys)
    (passes (are_untag_keys untag.tag_keys) _ (none_first _ _ h).1)

-- each key is as long as one may be
pub untag_keys : (untag : UntagResource) → untag_forms untag ≡ None → IsTrue (list_all is_untag_key untag.tag_keys)
untag_keys untag h = (keys_pass untag h).1

-- there are few enough of them
pub untag_few : (untag : UntagResource) → untag_forms untag ≡ None → length untag.tag_keys ≤ TAGS_LIMIT
untag_few untag h = let few = (keys_pass untag h).0 in grind (arith, nat_tests, few)
