-- What it says of a ValidateResourcePolicy that its forms pass.
use Rattle.std.proofs.Common.{◌≡◌, None, IfSome}
use Rattle.std.specs.Prelude.{IsTrue}
use Rattle.sm_model.specs.declared.request.ValidateResourcePolicy.{ValidateResourcePolicy}
use Rattle.sm_base.specs.Spelling.{is_secret_id}
use Rattle.sm_forms.specs.ValidateResourcePolicy.{validate_forms}
use Rattle.sm_forms.proofs.MemberLemmas.{none_first, all_pass}

pub validate_id : (validate : ValidateResourcePolicy) → validate_forms validate ≡ None
    → IfSome validate.secret_id (λ id. IsTrue (is_secret_id id))
validate_id validate h = all_pass is_secret_id _ validate.secret_id (none_first _ _ h).1
