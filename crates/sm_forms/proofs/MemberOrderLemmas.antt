-- In which order members are tested.
use Rattle.std.proofs.Common.{◌≡◌, ℕ, ℤ, List, codes, Bool, true, false, if◌then◌else◌, Option, Some, None, inl, inr, refl, sym, ap}
use Rattle.sm_base.specs.Spelling.{is_label, is_name, is_secret_id, is_token}
use Rattle.sm_base.specs.Texts.{has_at_most}
use Rattle.sm_base.specs.declared.limits.TheConstants.{BATCH_LIMIT, EXCLUDED_LIMIT, PAGE_LIMIT, PASSWORD_LIMIT}
use Rattle.sm_listing.specs.declared.tokens.TheConstants.{SECRETS, VERSIONS}
use Rattle.sm_model.specs.Bounds.{fits, is_description}
use Rattle.sm_versions.specs.Regions.{are_regions}
use Rattle.sm_forms.specs.ListSecrets.{is_order}
use Rattle.sm_policy_text.specs.Documents.{has_policy_length}
use Rattle.sm_forms.specs.BatchGetSecretValue.{are_ids}
use Rattle.sm_forms.specs.Paging.{are_filters, filters_form, is_count, is_page_token, max_form, next_form}
use Rattle.sm_forms.specs.Policies.{policy_flaw, policy_form}
use Rattle.sm_forms.specs.UntagResource.{are_untag_keys}
use Rattle.sm_model.specs.declared.request.Request.TheVariants as requests
use Rattle.sm_model.specs.declared.value.Tag.{Tag}
use Rattle.sm_model.specs.declared.request.Rules.{Rules}
use Rattle.sm_model.specs.declared.why.Why.{Why}
use Rattle.sm_model.specs.declared.why.Why.TheVariants.{BadToken}
use Rattle.sm_forms.specs.DeleteSecret.{is_window, window_form}
use Rattle.sm_forms.specs.Members.{first_why, form_unless, form_of, is_value, are_labels, are_tags, labels_form, tags_form}
use Rattle.sm_forms.specs.RotateSecret.{are_rules, rules_form}
use Rattle.sm_forms.specs.MemberOrder.{MemberTest, NamesItsMember, MembersComeFirst, MembersAscend, TestsNameMembers, test_of}

-- no refusal behind the last changes nothing
alone : (why : Option Why) → why ≡ first_why why None
alone None = refl
alone (Some why) = refl

two : (a b : Option Why) → first_why a b ≡ first_why a (first_why b None)
two None b = alone b
two (Some why) b = refl

three : (a b c : Option Why) → first_why a (first_why b c) ≡ first_why a (first_why b (first_why c None))
three None b c = two b c
three (Some why) b c = refl

four : (a b c d : Option Why)
    → first_why a (first_why b (first_why c d)) ≡ first_why a (first_why b (first_why c (first_why d None)))
four None b c d = three b c d
four (Some why) b c d = refl

regrouped : (a b c : Option Why) → first_why (first_why a b) c ≡ first_why a (first_why b c)
regrouped None b c = refl
regrouped (Some why) b c = refl

pub members_first : MembersComeFirst
members_first (requests.BatchGetSecretValue batch) = refl
members_first (requests.CancelRotateSecret cancel) =
    alone (form_unless (is_secret_id cancel.secret_id) (codes "SecretId"))
members_first (requests.CreateSecret create) = refl
members_first (requests.DeleteResourcePolicy delete) =
    alone (form_unless (is_secret_id delete.secret_id) (codes "SecretId"))
members_first (requests.DeleteSecret delete) = refl
members_first (requests.DescribeSecret describe) =
    alone (form_unless (is_secret_id describe.secret_id) (codes "SecretId"))
members_first (requests.GetRandomPassword get) = refl
members_first (requests.GetResourcePolicy get) = alone (form_unless (is_secret_id get.secret_id) (codes "SecretId"))
members_first (requests.GetSecretValue get) =
    three (form_unless (is_secret_id get.secret_id) (codes "SecretId"))
    (form_of is_token (codes "VersionId") get.version_id)
    (form_of is_label (codes "VersionStage") get.version_stage)
members_first (requests.ListSecretVersionIds list) =
    three (max_form PAGE_LIMIT list.max_results) (next_form VERSIONS list.next_token)
    (form_unless (is_secret_id list.secret_id) (codes "SecretId"))
members_first (requests.ListSecrets list) =
    four (filters_form list.filters) (max_form PAGE_LIMIT list.max_results) (next_form SECRETS list.next_token)
    (form_of is_order (codes "SortOrder") list.sort_order)
members_first (requests.PutResourcePolicy put) =
    regrouped (policy_form put.resource_policy) (form_unless (is_secret_id put.secret_id) (codes "SecretId"))
    (policy_flaw put.resource_policy)
members_first (requests.PutSecretValue put) = refl
members_first (requests.RemoveRegionsFromReplication remove) =
    two (form_unless (are_regions remove.regions) (codes "RemoveReplicaRegions"))
    (form_unless (is_secret_id remove.secret_id) (codes "SecretId"))
members_first (requests.ReplicateSecretToRegions replicate) =
    two (form_unless (are_regions replicate.regions) (codes "AddReplicaRegions"))
    (form_unless (is_secret_id replicate.secret_id) (codes "SecretId"))
members_first (requests.RestoreSecret restore) =
    alone (form_unless (is_secret_id restore.secret_id) (codes "SecretId"))
members_first (requests.RotateSecret rotate) =
    four (form_of is_token (codes "ClientRequestToken") rotate.client_request_token)
    (form_of is_description (codes "RotationLambdaARN") rotate.rotation_lambda_arn)
    (rules_form rotate.rotation_rules) (form_unless (is_secret_id rotate.secret_id) (codes "SecretId"))
members_first (requests.StopReplicationToReplica stop) =
    alone (form_unless (is_secret_id stop.secret_id) (codes "SecretId"))
members_first (requests.TagResource tag) =
    two (form_unless (is_secret_id tag.secret_id) (codes "SecretId")) (form_unless (are_tags tag.tags) (codes "Tags"))
members_first (requests.UntagResource untag) =
    two (form_unless (is_secret_id untag.secret_id) (codes "SecretId"))
    (form_unless (are_untag_keys untag.tag_keys) (codes "TagKeys"))
members_first (requests.UpdateSecret update) = refl
members_first (requests.UpdateSecretVersionStage update) = refl
members_first (requests.ValidateResourcePolicy validate) =
    two (policy_form validate.resource_policy) (form_of is_secret_id (codes "SecretId") validate.secret_id)

pub ascend : MembersAscend
ascend (requests.BatchGetSecretValue batch) = refl
ascend (requests.CancelRotateSecret cancel) = refl
ascend (requests.CreateSecret create) = refl
ascend (requests.DeleteResourcePolicy delete) = refl
ascend (requests.DeleteSecret delete) = refl
ascend (requests.DescribeSecret describe) = refl
ascend (requests.GetRandomPassword get) = refl
ascend (requests.GetResourcePolicy get) = refl
ascend (requests.GetSecretValue get) = refl
ascend (requests.ListSecretVersionIds list) = refl
ascend (requests.ListSecrets list) = refl
ascend (requests.PutResourcePolicy put) = refl
ascend (requests.PutSecretValue put) = refl
ascend (requests.RemoveRegionsFromReplication remove) = refl
ascend (requests.ReplicateSecretToRegions replicate) = refl
ascend (requests.RestoreSecret restore) = refl
ascend (requests.RotateSecret rotate) = refl
ascend (requests.StopReplicationToReplica stop) = refl
ascend (requests.TagResource tag) = refl
ascend (requests.UntagResource untag) = refl
ascend (requests.UpdateSecret update) = refl
ascend (requests.UpdateSecretVersionStage update) = refl
ascend (requests.ValidateResourcePolicy validate) = refl

-- ---- each test names its member

unless : (fits : Bool) (name : List ℕ) → NamesItsMember (test_of name (form_unless fits name))
unless true name = tt
unless false name = inl refl

given : (test : List ℕ → Bool) (name : List ℕ) (text : Option (List ℕ))
    → NamesItsMember (test_of name (form_of test name text))
given test name None = tt
given test name (Some text) = unless (test text) name

paged : (fits : Bool) (name : List ℕ) → NamesItsMember (test_of name (if fits then None else Some BadToken))
paged true name = tt
paged false name = inr refl

window : (days : Option ℤ) → NamesItsMember (test_of (codes "RecoveryWindowInDays") (window_form days))
window None = tt
window (Some days) = unless (is_window days) (codes "RecoveryWindowInDays")

tags : (given : Option (List Tag)) → NamesItsMember (test_of (codes "Tags") (tags_form given))
tags None = tt
tags (Some given) = unless (are_tags given) (codes "Tags")

labels : (given : Option (List (List ℕ))) → NamesItsMember (test_of (codes "VersionStages") (labels_form given))
labels None = tt
labels (Some given) = unless (are_labels given) (codes "VersionStages")

rules : (given : Option Rules) → NamesItsMember (test_of (codes "RotationRules") (rules_form given))
rules None = tt
rules (Some given) = unless (are_rules given) (codes "RotationRules")

pub named : TestsNameMembers
named (requests.BatchGetSecretValue batch) = (
  unless (fits are_filters batch.filters) (codes "Filters"),
  (
    unless (fits (is_count BATCH_LIMIT) batch.max_results) (codes "MaxResults"),
    (
      paged (fits (is_page_token SECRETS) batch.next_token) (codes "NextToken"),
      (unless (fits are_ids batch.secret_id_list) (codes "SecretIdList"), tt),
    ),
  ),
)
named (requests.CancelRotateSecret cancel) =
    (unless (is_secret_id cancel.secret_id) (codes "SecretId"), tt)
named (requests.CreateSecret create) = (
  unless (are_regions create.regions) (codes "AddReplicaRegions"),
  (
    given is_token (codes "ClientRequestToken") create.client_request_token,
    (
      given is_description (codes "Description") create.description,
      (
        given is_description (codes "KmsKeyId") create.kms_key_id,
        (
          unless (is_name create.name) (codes "Name"),
          (
            given is_value (codes "SecretBinary") create.secret_binary,
            (
              given is_value (codes "SecretString") create.secret_string,
              (tags create.tags, tt),
            ),
          ),
        ),
      ),
    ),
  ),
)
named (requests.DeleteResourcePolicy delete) =
    (unless (is_secret_id delete.secret_id) (codes "SecretId"), tt)
named (requests.DeleteSecret delete) = (
  window delete.recovery_window_in_days,
  (unless (is_secret_id delete.secret_id) (codes "SecretId"), tt),
)
named (requests.DescribeSecret describe) =
    (unless (is_secret_id describe.secret_id) (codes "SecretId"), tt)
named (requests.GetRandomPassword get) = (
  given (has_at_most EXCLUDED_LIMIT) (codes "ExcludeCharacters") get.exclude_characters,
  (unless (fits (is_count PASSWORD_LIMIT) get.password_length) (codes "PasswordLength"), tt),
)
named (requests.GetResourcePolicy get) =
    (unless (is_secret_id get.secret_id) (codes "SecretId"), tt)
named (requests.GetSecretValue get) = (
  unless (is_secret_id get.secret_id) (codes "SecretId"),
  (
    given is_token (codes "VersionId") get.version_id,
    (given is_label (codes "VersionStage") get.version_stage, tt),
  ),
)
named (requests.ListSecretVersionIds list) = (
  unless (fits (is_count PAGE_LIMIT) list.max_results) (codes "MaxResults"),
  (
    paged (fits (is_page_token VERSIONS) list.next_token) (codes "NextToken"),
    (unless (is_secret_id list.secret_id) (codes "SecretId"), tt),
  ),
)
named (requests.ListSecrets list) = (
  unless (fits are_filters list.filters) (codes "Filters"),
  (
    unless (fits (is_count PAGE_LIMIT) list.max_results) (codes "MaxResults"),
    (
      paged (fits (is_page_token SECRETS) list.next_token) (codes "NextToken"),
      (given is_order (codes "SortOrder") list.sort_order, tt),
    ),
  ),
)
named (requests.PutResourcePolicy put) = (
  unless (has_policy_length put.resource_policy) (codes "ResourcePolicy"),
  (unless (is_secret_id put.secret_id) (codes "SecretId"), tt),
)
named (requests.PutSecretValue put) = (
  given is_token (codes "ClientRequestToken") put.client_request_token,
  (
    given is_value (codes "SecretBinary") put.secret_binary,
    (
      unless (is_secret_id put.secret_id) (codes "SecretId"),
      (
        given is_value (codes "SecretString") put.secret_string,
        (labels put.version_stages, tt),
      ),
    ),
  ),
)
named (requests.RemoveRegionsFromReplication remove) = (
  unless (are_regions remove.regions) (codes "RemoveReplicaRegions"),
  (unless (is_secret_id remove.secret_id) (codes "SecretId"), tt),
)
named (requests.ReplicateSecretToRegions replicate) = (
  unless (are_regions replicate.regions) (codes "AddReplicaRegions"),
  (unless (is_secret_id replicate.secret_id) (codes "SecretId"), tt),
)
named (requests.RestoreSecret restore) =
    (unless (is_secret_id restore.secret_id) (codes "SecretId"), tt)
named (requests.RotateSecret rotate) = (
  given is_token (codes "ClientRequestToken") rotate.client_request_token,
  (
    given is_description (codes "RotationLambdaARN") rotate.rotation_lambda_arn,
    (
      rules rotate.rotation_rules,
      (unless (is_secret_id rotate.secret_id) (codes "SecretId"), tt),
    ),
  ),
)
named (requests.StopReplicationToReplica stop) =
    (unless (is_secret_id stop.secret_id) (codes "SecretId"), tt)
named (requests.TagResource tag) = (
  unless (is_secret_id tag.secret_id) (codes "SecretId"),
  (unless (are_tags tag.tags) (codes "Tags"), tt),
)
named (requests.UntagResource untag) = (
  unless (is_secret_id untag.secret_id) (codes "SecretId"),
  (unless (are_untag_keys untag.tag_keys) (codes "TagKeys"), tt),
)
named (requests.UpdateSecret update) = (
  given is_token (codes "ClientRequestToken") update.client_request_token,
  (
    given is_description (codes "Description") update.description,
    (
      given is_description (codes "KmsKeyId") update.kms_key_id,
      (
        given is_value (codes "SecretBinary") update.secret_binary,
        (
          unless (is_secret_id update.secret_id) (codes "SecretId"),
          (given is_value (codes "SecretString") update.secret_string, tt),
        ),
      ),
    ),
  ),
)
named (requests.UpdateSecretVersionStage update) = (
  given is_token (codes "MoveToVersionId") update.move_to_version_id,
  (
    given is_token (codes "RemoveFromVersionId") update.remove_from_version_id,
    (
      unless (is_secret_id update.secret_id) (codes "SecretId"),
      (unless (is_label update.version_stage) (codes "VersionStage"), tt),
    ),
  ),
)
named (requests.ValidateResourcePolicy validate) = (
  unless (has_policy_length validate.resource_policy) (codes "ResourcePolicy"),
  (given is_secret_id (codes "SecretId") validate.secret_id, tt),
)
