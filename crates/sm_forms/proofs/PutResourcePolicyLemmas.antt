-- What it says of a PutResourcePolicy that its forms pass.
use Rattle.std.proofs.Common.{◌≡◌, None}
use Rattle.std.specs.Prelude.{IsTrue}
use Rattle.sm_model.specs.declared.request.PutResourcePolicy.{PutResourcePolicy}
use Rattle.sm_base.specs.Spelling.{is_secret_id}
use Rattle.sm_policy_text.specs.Documents.{is_resource_policy}
use Rattle.sm_forms.specs.PutResourcePolicy.{put_policy_forms}
use Rattle.sm_forms.proofs.MemberLemmas.{none_first, passes}
use Rattle.sm_forms.proofs.PolicyLemmas.{policy_passes}

pub put_policy_id : (put : PutResourcePolicy) → put_policy_forms put ≡ None → IsTrue (is_secret_id put.secret_id)
put_policy_id put h = passes (is_secret_id put.secret_id) _ (none_first _ _ (none_first _ _ h).0).1

pub put_policy_text : (put : PutResourcePolicy) → put_policy_forms put ≡ None
    → IsTrue (is_resource_policy put.resource_policy)
put_policy_text put h =
    policy_passes put.resource_policy (none_first _ _ (none_first _ _ h).0).0 (none_first _ _ h).1
