-- What it says of a CreateSecret that its forms pass.
use Rattle.std.proofs.Common.{◌≡◌, false, None, IfSome}
use Rattle.std.specs.Prelude.{IsTrue}
use Rattle.sm_model.specs.declared.request.CreateSecret.{CreateSecret}
use Rattle.sm_model.specs.Bounds.{is_description}
use Rattle.sm_base.specs.Spelling.{is_name, is_token}
use Rattle.sm_versions.specs.Regions.{are_regions}
use Rattle.sm_versions.specs.Texts.{once}
use Rattle.sm_versions.specs.Sound.{tag_keys, each_tag}
use Rattle.sm_forms.specs.Members.{is_value, has_both}
use Rattle.sm_forms.specs.CreateSecret.{create_value, create_forms}
use Rattle.sm_forms.proofs.MemberLemmas.{none_first, passes, all_pass, not_both}
use Rattle.sm_forms.proofs.TagLemmas.{tags_pass}

-- each of the members
record Parts (create : CreateSecret) : Type 0 where
  regions : IsTrue (are_regions create.regions)
  token : IfSome create.client_request_token (λ t. IsTrue (is_token t))
  description : IfSome create.description (λ t. IsTrue (is_description t))
  kms : IfSome create.kms_key_id (λ t. IsTrue (is_description t))
  name : IsTrue (is_name create.name)
  value : create_value create ≡ None

parts : (create : CreateSecret) → create_forms create ≡ None → Parts create
parts create h =
    let token = none_first _ _ h in
    let description = none_first _ _ token.1 in
    let kms = none_first _ _ description.1 in
    let name = none_first _ _ kms.1 in
    let value = none_first _ _ name.1 in
    record {
      regions = passes (are_regions create.regions) _ token.0;
      token = all_pass is_token _ create.client_request_token description.0;
      description = all_pass is_description _ create.description kms.0;
      kms = all_pass is_description _ create.kms_key_id name.0;
      name = passes (is_name create.name) _ value.0;
      value = value.1;
    }

record ValueParts (create : CreateSecret) : Type 0 where
  binary : IfSome create.secret_binary (λ bytes. IsTrue (is_value bytes))
  text : IfSome create.secret_string (λ t. IsTrue (is_value t))
  tags : IfSome create.tags (λ ts. IsTrue (each_tag ts) × IsTrue (once (tag_keys ts)))
  one : has_both create.secret_string create.secret_binary ≡ false

value_parts : (create : CreateSecret) → create_value create ≡ None → ValueParts create
value_parts create h =
    let text = none_first _ _ h in
    let tags = none_first _ _ text.1 in
    let one = none_first _ _ tags.1 in
    record {
      binary = all_pass is_value _ create.secret_binary text.0;
      text = all_pass is_value _ create.secret_string tags.0;
      tags = tags_pass create.tags one.0;
      one = not_both create.secret_string create.secret_binary _ one.1;
    }

pub create_regions : (create : CreateSecret) → create_forms create ≡ None
    → IsTrue (are_regions create.regions)
create_regions create h = (parts create h).regions

pub create_token : (create : CreateSecret) → create_forms create ≡ None
    → IfSome create.client_request_token (λ t. IsTrue (is_token t))
create_token create h = (parts create h).token

pub create_description : (create : CreateSecret) → create_forms create ≡ None
    → IfSome create.description (λ t. IsTrue (is_description t))
create_description create h = (parts create h).description

pub create_kms : (create : CreateSecret) → create_forms create ≡ None
    → IfSome create.kms_key_id (λ t. IsTrue (is_description t))
create_kms create h = (parts create h).kms

pub create_name : (create : CreateSecret) → create_forms create ≡ None → IsTrue (is_name create.name)
create_name create h = (parts create h).name

pub create_binary : (create : CreateSecret) → create_forms create ≡ None
    → IfSome create.secret_binary (λ bytes. IsTrue (is_value bytes))
create_binary create h = (value_parts create (parts create h).value).binary

pub create_text : (create : CreateSecret) → create_forms create ≡ None
    → IfSome create.secret_string (λ t. IsTrue (is_value t))
create_text create h = (value_parts create (parts create h).value).text

pub create_tags : (create : CreateSecret) → create_forms create ≡ None
    → IfSome create.tags (λ ts. IsTrue (each_tag ts) × IsTrue (once (tag_keys ts)))
create_tags create h = (value_parts create (parts create h).value).tags

-- a text and bytes are not both given
pub create_one : (create : CreateSecret) → create_forms create ≡ None
    → has_both create.secret_string create.secret_binary ≡ false
create_one create h = (value_parts create (parts create h).value).one
