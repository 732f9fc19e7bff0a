-- The texts and tags of what makes entries.
use Rattle.std.specs.Prelude.{ℕ, ◌≤◌, List, [], ◌∷◌, length, ⊤, IfSome, IsTrue, IsUtf8}
use Rattle.sm_base.specs.Spelling.{is_arn, is_token}
use Rattle.sm_model.specs.declared.entry.Act.{Act}
use Rattle.sm_model.specs.declared.entry.Act.TheVariants.{Asked, Begun, Reported}
use Rattle.sm_model.specs.declared.entry.Answer.{Answer}
use Rattle.sm_model.specs.declared.entry.Answer.TheVariants as answers
use Rattle.sm_base.specs.declared.limits.TheConstants.{TAGS_LIMIT}
use Rattle.sm_model.specs.declared.request.CreateSecret.{CreateSecret}
use Rattle.sm_model.specs.declared.request.PutResourcePolicy.{PutResourcePolicy}
use Rattle.sm_model.specs.declared.request.PutSecretValue.{PutSecretValue}
use Rattle.sm_model.specs.declared.request.Request.{Request}
use Rattle.sm_model.specs.declared.request.Request.TheVariants as requests
use Rattle.sm_model.specs.declared.request.RotateSecret.{RotateSecret}
use Rattle.sm_model.specs.declared.request.TagResource.{TagResource}
use Rattle.sm_model.specs.declared.request.UntagResource.{UntagResource}
use Rattle.sm_model.specs.declared.request.UpdateSecret.{UpdateSecret}
use Rattle.sm_model.specs.declared.request.UpdateSecretVersionStage.{UpdateSecretVersionStage}
use Rattle.sm_model.specs.declared.value.Tag.{Tag}
use Rattle.sm_model.specs.declared.value.Value.{Value}
use Rattle.sm_model.specs.declared.value.Value.TheVariants.{Text, Bytes}

abbrev pub TagTexts : List Tag → Type 0
TagTexts [] = ⊤
TagTexts (tag ∷ tags) = IsUtf8 tag.key × IsUtf8 tag.value × TagTexts tags

abbrev pub EachText : List (List ℕ) → Type 0
EachText [] = ⊤
EachText (text ∷ texts) = IsUtf8 text × EachText texts

pub record CreateTexts (r : CreateSecret) : Type 0 where
  pub token : IfSome r.client_request_token IsUtf8
  pub description : IfSome r.description IsUtf8
  pub kms : IfSome r.kms_key_id IsUtf8
  pub name : IsUtf8 r.name
  pub string : IfSome r.secret_string IsUtf8
  pub tags : IfSome r.tags TagTexts

pub record PutTexts (r : PutSecretValue) : Type 0 where
  pub token : IfSome r.client_request_token IsUtf8
  pub id : IsUtf8 r.secret_id
  pub string : IfSome r.secret_string IsUtf8

pub record UpdateTexts (r : UpdateSecret) : Type 0 where
  pub token : IfSome r.client_request_token IsUtf8
  pub description : IfSome r.description IsUtf8
  pub kms : IfSome r.kms_key_id IsUtf8
  pub id : IsUtf8 r.secret_id
  pub string : IfSome r.secret_string IsUtf8

pub record MoveTexts (r : UpdateSecretVersionStage) : Type 0 where
  pub to : IfSome r.move_to_version_id IsUtf8
  pub from : IfSome r.remove_from_version_id IsUtf8
  pub id : IsUtf8 r.secret_id
  pub label : IsUtf8 r.version_stage

pub record TaggingTexts (r : TagResource) : Type 0 where
  pub id : IsUtf8 r.secret_id
  pub tags : TagTexts r.tags

pub record UntaggingTexts (r : UntagResource) : Type 0 where
  pub id : IsUtf8 r.secret_id
  pub keys : EachText r.tag_keys

pub record PolicyTexts (r : PutResourcePolicy) : Type 0 where
  pub policy : IsUtf8 r.resource_policy
  pub id : IsUtf8 r.secret_id

pub record RotateTexts (r : RotateSecret) : Type 0 where
  pub token : IfSome r.client_request_token IsUtf8
  pub lambda : IfSome r.rotation_lambda_arn IsUtf8
  pub schedule : IfSome r.rotation_rules (λ rules. IfSome rules.schedule IsUtf8)
  pub id : IsUtf8 r.secret_id

-- each text of the request is UTF-8, but for the names of regions, which are ASCII by their form
abbrev pub TextsOf : Request → Type 0
TextsOf (requests.CreateSecret r) = CreateTexts r
TextsOf (requests.PutSecretValue r) = PutTexts r
TextsOf (requests.UpdateSecret r) = UpdateTexts r
TextsOf (requests.UpdateSecretVersionStage r) = MoveTexts r
TextsOf (requests.DeleteSecret r) = IsUtf8 r.secret_id
TextsOf (requests.RestoreSecret r) = IsUtf8 r.secret_id
TextsOf (requests.TagResource r) = TaggingTexts r
TextsOf (requests.UntagResource r) = UntaggingTexts r
TextsOf (requests.ReplicateSecretToRegions r) = IsUtf8 r.secret_id
TextsOf (requests.RemoveRegionsFromReplication r) = IsUtf8 r.secret_id
TextsOf (requests.PutResourcePolicy r) = PolicyTexts r
TextsOf (requests.DeleteResourcePolicy r) = IsUtf8 r.secret_id
TextsOf (requests.RotateSecret r) = RotateTexts r
TextsOf (requests.CancelRotateSecret r) = IsUtf8 r.secret_id
TextsOf r = ⊤

abbrev pub ValueText : Value → Type 0
ValueText (Text text) = IsUtf8 text
ValueText (Bytes bytes) = ⊤

abbrev pub AnswerText : Answer → Type 0
AnswerText (answers.Value value) = ValueText value
AnswerText answers.Yes = ⊤
AnswerText answers.No = ⊤
AnswerText answers.Failed = ⊤

-- each text of an act is UTF-8, and its ARN and its token are spelled as such
abbrev pub ActTexts : Act → Type 0
ActTexts (Asked request) = TextsOf request
ActTexts (Begun arn) = IsTrue (is_arn arn)
ActTexts (Reported arn at answer) = IsTrue (is_arn arn) × IsTrue (is_token at.token) × AnswerText answer

-- a request gives at most 50 tags
abbrev pub HasFewTags : Request → Type 0
HasFewTags (requests.CreateSecret r) = IfSome r.tags (λ tags. length tags ≤ TAGS_LIMIT)
HasFewTags (requests.TagResource r) = length r.tags ≤ TAGS_LIMIT
HasFewTags r = ⊤
