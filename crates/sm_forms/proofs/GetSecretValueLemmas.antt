-- What it says of a GetSecretValue that its forms pass.
use Rattle.std.proofs.Common.{◌≡◌, None, IfSome}
use Rattle.std.specs.Prelude.{IsTrue}
use Rattle.sm_model.specs.declared.request.GetSecretValue.{GetSecretValue}
use Rattle.sm_base.specs.Spelling.{is_token, is_label, is_secret_id}
use Rattle.sm_forms.specs.GetSecretValue.{get_forms}
use Rattle.sm_forms.proofs.MemberLemmas.{none_first, passes, all_pass}

-- each of the members
parts : (get : GetSecretValue) → get_forms get ≡ None
    → IsTrue (is_secret_id get.secret_id) × IfSome get.version_id (λ t. IsTrue (is_token t))
    × IfSome get.version_stage (λ t. IsTrue (is_label t))
parts get h =
    let forms = none_first _ _ h in
    let later = none_first _ _ forms.1 in (
      passes (is_secret_id get.secret_id) _ forms.0,
      all_pass is_token _ get.version_id later.0,
      all_pass is_label _
          get.version_stage later.1,
    )

pub get_id : (get : GetSecretValue) → get_forms get ≡ None → IsTrue (is_secret_id get.secret_id)
get_id get h = (parts get h).0

pub get_version : (get : GetSecretValue) → get_forms get ≡ None → IfSome get.version_id (λ t. IsTrue (is_token t))
get_version get h = (parts get h).1

pub get_label : (get : GetSecretValue) → get_forms get ≡ None → IfSome get.version_stage (λ t. IsTrue (is_label t))
get_label get h = (parts get h).2
