-- What it says of a PutSecretValue that its forms pass.
use Rattle.std.proofs.Common.{◌≡◌, true, ◌||◌, None, is_some, IfSome}
use Rattle.std.specs.Prelude.{IsTrue}
use Rattle.std.specs.List.{list_all}
use Rattle.sm_model.specs.declared.request.PutSecretValue.{PutSecretValue}
use Rattle.sm_base.specs.Spelling.{is_token, is_label, is_secret_id}
use Rattle.sm_forms.specs.Members.{is_value}
use Rattle.sm_forms.specs.PutSecretValue.{put_forms}
use Rattle.sm_forms.proofs.MemberLemmas.{none_first, passes, all_pass, labels_pass, one_given}

-- each of the members, and then the value
record Parts (put : PutSecretValue) : Type 0 where
  token : IfSome put.client_request_token (λ t. IsTrue (is_token t))
  binary : IfSome put.secret_binary (λ bytes. IsTrue (is_value bytes))
  id : IsTrue (is_secret_id put.secret_id)
  text : IfSome put.secret_string (λ t. IsTrue (is_value t))
  labels : IfSome put.version_stages (λ labels. IsTrue (list_all is_label labels))
  given : (is_some put.secret_string || is_some put.secret_binary) ≡ true

parts : (put : PutSecretValue) → put_forms put ≡ None → Parts put
parts put h =
    let binary = none_first _ _ h in
    let id = none_first _ _ binary.1 in
    let text = none_first _ _ id.1 in
    let labels = none_first _ _ text.1 in
    let given = none_first _ _ labels.1 in
    record {
      token = all_pass is_token _ put.client_request_token binary.0;
      binary = all_pass is_value _ put.secret_binary id.0;
      id = passes (is_secret_id put.secret_id) _ text.0;
      text = all_pass is_value _ put.secret_string labels.0;
      labels = labels_pass put.version_stages given.0;
      given = one_given put.secret_string put.secret_binary _ given.1;
    }

pub put_token : (put : PutSecretValue) → put_forms put ≡ None
    → IfSome put.client_request_token (λ t. IsTrue (is_token t))
put_token put h = (parts put h).token

pub put_binary : (put : PutSecretValue) → put_forms put ≡ None
    → IfSome put.secret_binary (λ bytes. IsTrue (is_value bytes))
put_binary put h = (parts put h).binary

pub put_id : (put : PutSecretValue) → put_forms put ≡ None → IsTrue (is_secret_id put.secret_id)
put_id put h = (parts put h).id

pub put_text : (put : PutSecretValue) → put_forms put ≡ None → IfSome put.secret_string (λ t. IsTrue (is_value t))
put_text put h = (parts put h).text

pub put_labels : (put : PutSecretValue) → put_forms put ≡ None
    → IfSome put.version_stages (λ labels. IsTrue (list_all is_label labels))
put_labels put h = (parts put h).labels

-- a value is there
pub put_given : (put : PutSecretValue) → put_forms put ≡ None → (is_some put.secret_string || is_some put.secret_binary)
    ≡ true
put_given put h = (parts put h).given
