-- What it says of an UpdateSecret that its forms pass.
use Rattle.std.proofs.Common.{◌≡◌, false, None, IfSome}
use Rattle.std.specs.Prelude.{IsTrue}
use Rattle.sm_model.specs.declared.request.UpdateSecret.{UpdateSecret}
use Rattle.sm_model.specs.Bounds.{is_description}
use Rattle.sm_base.specs.Spelling.{is_token, is_secret_id}
use Rattle.sm_forms.specs.Members.{is_value, has_both}
use Rattle.sm_forms.specs.UpdateSecret.{update_value, update_forms}
use Rattle.sm_forms.proofs.MemberLemmas.{none_first, passes, all_pass, not_both}

-- each of the members
record Parts (update : UpdateSecret) : Type 0 where
  token : IfSome update.client_request_token (λ t. IsTrue (is_token t))
  description : IfSome update.description (λ t. IsTrue (is_description t))
  kms : IfSome update.kms_key_id (λ t. IsTrue (is_description t))
  value : update_value update ≡ None

parts : (update : UpdateSecret) → update_forms update ≡ None → Parts update
parts update h =
    let description = none_first _ _ h in
    let kms = none_first _ _ description.1 in
    let value = none_first _ _ kms.1 in
    record {
      token = all_pass is_token _ update.client_request_token description.0;
      description = all_pass is_description _ update.description kms.0;
      kms = all_pass is_description _ update.kms_key_id value.0;
      value = value.1;
    }

record ValueParts (update : UpdateSecret) : Type 0 where
  binary : IfSome update.secret_binary (λ bytes. IsTrue (is_value bytes))
  id : IsTrue (is_secret_id update.secret_id)
  text : IfSome update.secret_string (λ t. IsTrue (is_value t))
  one : has_both update.secret_string update.secret_binary ≡ false

value_parts : (update : UpdateSecret) → update_value update ≡ None → ValueParts update
value_parts update h =
    let id = none_first _ _ h in
    let text = none_first _ _ id.1 in
    let one = none_first _ _ text.1 in
    record {
      binary = all_pass is_value _ update.secret_binary id.0;
      id = passes (is_secret_id update.secret_id) _ text.0;
      text = all_pass is_value _ update.secret_string one.0;
      one = not_both update.secret_string update.secret_binary _ one.1;
    }

pub update_token : (update : UpdateSecret) → update_forms update ≡ None
    → IfSome update.client_request_token (λ t. IsTrue (is_token t))
update_token update h = (parts update h).token

pub update_description : (update : UpdateSecret) → update_forms update ≡ None
    → IfSome update.description (λ t. IsTrue (is_description t))
update_description update h = (parts update h).description

pub update_kms : (update : UpdateSecret) → update_forms update ≡ None
    → IfSome update.kms_key_id (λ t. IsTrue (is_description t))
update_kms update h = (parts update h).kms

pub update_binary : (update : UpdateSecret) → update_forms update ≡ None
    → IfSome update.secret_binary (λ bytes. IsTrue (is_value bytes))
update_binary update h = (value_parts update (parts update h).value).binary

pub update_id : (update : UpdateSecret) → update_forms update ≡ None → IsTrue (is_secret_id update.secret_id)
update_id update h = (value_parts update (parts update h).value).id

pub update_text : (update : UpdateSecret) → update_forms update ≡ None
    → IfSome update.secret_string (λ t. IsTrue (is_value t))
update_text update h = (value_parts update (parts update h).value).text

-- a text and bytes are not both given
pub update_one : (update : UpdateSecret) → update_forms update ≡ None
    → has_both update.secret_string update.secret_binary ≡ false
update_one update h = (value_parts update (parts update h).value).one
