-- In which order the members of a request are tested: AWS Secrets Manager API Reference, the request parameters of each
-- operation, in ascending byte order of their names.
use Rattle.std.specs.Prelude.{◌≡◌, ◌⊎◌, ℕ, Bool, true, not, ◌&&◌, ◌||◌, List, [], ◌∷◌, Option, None, is_some, IfSome, ⊤, codes}
use Rattle.std.specs.Ordering.{nat_cmp, is_lt}
use Rattle.std.specs.Cmp.Lexicographic.{slice_cmp}
use Rattle.sm_base.specs.Spelling.{is_label, is_name, is_secret_id, is_token}
use Rattle.sm_base.specs.Texts.{has_at_most}
use Rattle.sm_base.specs.declared.limits.TheConstants.{BATCH_LIMIT, EXCLUDED_LIMIT, PAGE_LIMIT, PASSWORD_LIMIT}
use Rattle.sm_listing.specs.declared.tokens.TheConstants.{SECRETS, VERSIONS}
use Rattle.sm_model.specs.Bounds.{fits, is_description}
use Rattle.sm_model.specs.declared.request.Request.{Request}
use Rattle.sm_model.specs.declared.request.Request.TheVariants as requests
use Rattle.sm_model.specs.declared.why.Why.{Why}
use Rattle.sm_model.specs.declared.why.Why.TheVariants.{Form, BadToken}
use Rattle.sm_versions.specs.Regions.{are_regions}
use Rattle.sm_forms.specs.BatchGetSecretValue.{are_ids, batch_joint}
use Rattle.sm_forms.specs.DeleteSecret.{is_forced_with_window, window_form}
use Rattle.sm_forms.specs.Forms.{forms_of}
use Rattle.sm_forms.specs.GetRandomPassword.{password_ask, password_joint}
use Rattle.sm_forms.specs.ListSecrets.{is_order}
use Rattle.sm_forms.specs.Members.{first_why, form_unless, form_of, is_value, has_both, has_one, are_tags, labels_form, tags_form}
use Rattle.sm_forms.specs.Paging.{filters_form, is_count, max_form, next_form}
use Rattle.sm_forms.specs.Policies.{policy_form, policy_flaw}
use Rattle.sm_forms.specs.RotateSecret.{rules_form}
use Rattle.sm_forms.specs.UntagResource.{are_untag_keys}

-- the test of a member: the member's name, and the refusal where it is not in its form
pub record MemberTest : Type 0 where
  pub name : List ℕ
  pub refusal : Option Why

abbrev pub test_of : List ℕ → Option Why → MemberTest
test_of name refusal = record { name = name; refusal = refusal }

abbrev pub secret_id : List ℕ → MemberTest
secret_id id = test_of (codes "SecretId") (form_unless (is_secret_id id) (codes "SecretId"))

-- the tests of a request's members
abbrev pub member_tests : Request → List MemberTest
member_tests (requests.BatchGetSecretValue batch) =
    test_of (codes "Filters") (filters_form batch.filters)
    ∷ test_of (codes "MaxResults") (max_form BATCH_LIMIT batch.max_results)
    ∷ test_of (codes "NextToken") (next_form SECRETS batch.next_token)
    ∷ test_of (codes "SecretIdList") (form_unless (fits are_ids batch.secret_id_list) (codes "SecretIdList"))
    ∷ []
member_tests (requests.CancelRotateSecret cancel) = secret_id cancel.secret_id ∷ []
member_tests (requests.CreateSecret create) =
    test_of (codes "AddReplicaRegions") (form_unless (are_regions create.regions) (codes "AddReplicaRegions"))
    ∷ test_of (codes "ClientRequestToken") (form_of is_token (codes "ClientRequestToken") create.client_request_token)
    ∷ test_of (codes "Description") (form_of is_description (codes "Description") create.description)
    ∷ test_of (codes "KmsKeyId") (form_of is_description (codes "KmsKeyId") create.kms_key_id)
    ∷ test_of (codes "Name") (form_unless (is_name create.name) (codes "Name"))
    ∷ test_of (codes "SecretBinary") (form_of is_value (codes "SecretBinary") create.secret_binary)
    ∷ test_of (codes "SecretString") (form_of is_value (codes "SecretString") create.secret_string)
    ∷ test_of (codes "Tags") (tags_form create.tags)
    ∷ []
member_tests (requests.DeleteResourcePolicy delete) = secret_id delete.secret_id ∷ []
member_tests (requests.DeleteSecret delete) =
    test_of (codes "RecoveryWindowInDays") (window_form delete.recovery_window_in_days)
    ∷ secret_id delete.secret_id
    ∷ []
member_tests (requests.DescribeSecret describe) = secret_id describe.secret_id ∷ []
member_tests (requests.GetRandomPassword get) =
    test_of (codes "ExcludeCharacters")
    (form_of (has_at_most EXCLUDED_LIMIT) (codes "ExcludeCharacters") get.exclude_characters)
    ∷ test_of (codes "PasswordLength")
    (form_unless (fits (is_count PASSWORD_LIMIT) get.password_length) (codes "PasswordLength"))
    ∷ []
member_tests (requests.GetResourcePolicy get) = secret_id get.secret_id ∷ []
member_tests (requests.GetSecretValue get) =
    secret_id get.secret_id
    ∷ test_of (codes "VersionId") (form_of is_token (codes "VersionId") get.version_id)
    ∷ test_of (codes "VersionStage") (form_of is_label (codes "VersionStage") get.version_stage)
    ∷ []
member_tests (requests.ListSecretVersionIds list) =
    test_of (codes "MaxResults") (max_form PAGE_LIMIT list.max_results)
    ∷ test_of (codes "NextToken") (next_form VERSIONS list.next_token)
    ∷ secret_id list.secret_id
    ∷ []
member_tests (requests.ListSecrets list) =
    test_of (codes "Filters") (filters_form list.filters)
    ∷ test_of (codes "MaxResults") (max_form PAGE_LIMIT list.max_results)
    ∷ test_of (codes "NextToken") (next_form SECRETS list.next_token)
    ∷ test_of (codes "SortOrder") (form_of is_order (codes "SortOrder") list.sort_order)
    ∷ []
member_tests (requests.PutResourcePolicy put) =
    test_of (codes "ResourcePolicy") (policy_form put.resource_policy) ∷ secret_id put.secret_id ∷ []
member_tests (requests.PutSecretValue put) =
    test_of (codes "ClientRequestToken") (form_of is_token (codes "ClientRequestToken") put.client_request_token)
    ∷ test_of (codes "SecretBinary") (form_of is_value (codes "SecretBinary") put.secret_binary)
    ∷ secret_id put.secret_id
    ∷ test_of (codes "SecretString") (form_of is_value (codes "SecretString") put.secret_string)
    ∷ test_of (codes "VersionStages") (labels_form put.version_stages)
    ∷ []
member_tests (requests.RemoveRegionsFromReplication remove) =
    test_of (codes "RemoveReplicaRegions") (form_unless (are_regions remove.regions) (codes "RemoveReplicaRegions"))
    ∷ secret_id remove.secret_id
    ∷ []
member_tests (requests.ReplicateSecretToRegions replicate) =
    test_of (codes "AddReplicaRegions") (form_unless (are_regions replicate.regions) (codes "AddReplicaRegions"))
    ∷ secret_id replicate.secret_id
    ∷ []
member_tests (requests.RestoreSecret restore) = secret_id restore.secret_id ∷ []
member_tests (requests.RotateSecret rotate) =
    test_of (codes "ClientRequestToken") (form_of is_token (codes "ClientRequestToken") rotate.client_request_token)
    ∷ test_of (codes "RotationLambdaARN")
    (form_of is_description (codes "RotationLambdaARN") rotate.rotation_lambda_arn)
    ∷ test_of (codes "RotationRules") (rules_form rotate.rotation_rules)
    ∷ secret_id rotate.secret_id
    ∷ []
member_tests (requests.StopReplicationToReplica stop) = secret_id stop.secret_id ∷ []
member_tests (requests.TagResource tag) =
    secret_id tag.secret_id ∷ test_of (codes "Tags") (form_unless (are_tags tag.tags) (codes "Tags")) ∷ []
member_tests (requests.UntagResource untag) =
    secret_id untag.secret_id
    ∷ test_of (codes "TagKeys") (form_unless (are_untag_keys untag.tag_keys) (codes "TagKeys"))
    ∷ []
member_tests (requests.UpdateSecret update) =
    test_of (codes "ClientRequestToken") (form_of is_token (codes "ClientRequestToken") update.client_request_token)
    ∷ test_of (codes "Description") (form_of is_description (codes "Description") update.description)
    ∷ test_of (codes "KmsKeyId") (form_of is_description (codes "KmsKeyId") update.kms_key_id)
    ∷ test_of (codes "SecretBinary") (form_of is_value (codes "SecretBinary") update.secret_binary)
    ∷ secret_id update.secret_id
    ∷ test_of (codes "SecretString") (form_of is_value (codes "SecretString") update.secret_string)
    ∷ []
member_tests (requests.UpdateSecretVersionStage update) =
    test_of (codes "MoveToVersionId") (form_of is_token (codes "MoveToVersionId") update.move_to_version_id)
    ∷ test_of (codes "RemoveFromVersionId")
    (form_of is_token (codes "RemoveFromVersionId") update.remove_from_version_id)
    ∷ secret_id update.secret_id
    ∷ test_of (codes "VersionStage") (form_unless (is_label update.version_stage) (codes "VersionStage"))
    ∷ []
member_tests (requests.ValidateResourcePolicy validate) =
    test_of (codes "ResourcePolicy") (policy_form validate.resource_policy)
    ∷ test_of (codes "SecretId") (form_of is_secret_id (codes "SecretId") validate.secret_id)
    ∷ []

-- the joint tests of several members, or the test that a policy's text is a policy
abbrev pub joint_test : Request → Option Why
joint_test (requests.BatchGetSecretValue batch) = batch_joint batch
joint_test (requests.CreateSecret create) =
    form_unless (not (has_both create.secret_string create.secret_binary)) (codes "SecretString")
joint_test (requests.DeleteSecret delete) =
    form_unless (not (is_forced_with_window delete)) (codes "ForceDeleteWithoutRecovery")
joint_test (requests.GetRandomPassword get) = password_joint (password_ask get)
joint_test (requests.PutResourcePolicy put) = policy_flaw put.resource_policy
joint_test (requests.PutSecretValue put) =
    form_unless (has_one put.secret_string put.secret_binary) (codes "SecretString")
joint_test (requests.UpdateSecret update) =
    form_unless (not (has_both update.secret_string update.secret_binary)) (codes "SecretString")
joint_test (requests.UpdateSecretVersionStage update) =
    form_unless (is_some update.move_to_version_id || is_some update.remove_from_version_id) (codes "MoveToVersionId")
joint_test request = None

-- the refusal of the first test that fails, and behind all of them that of the joint tests
abbrev pub first_of : List MemberTest → Option Why → Option Why
first_of [] joint = joint
first_of (test ∷ rest) joint = first_why test.refusal (first_of rest joint)

-- a refusal names the test's member, or is of a NextToken of another spelling
abbrev pub NamesItsMember : MemberTest → Type 0
NamesItsMember test = IfSome test.refusal (λ why. (why ≡ Form test.name) ⊎ (why ≡ BadToken))

abbrev pub EachNames : List MemberTest → Type 0
EachNames [] = ⊤
EachNames (test ∷ rest) = NamesItsMember test × EachNames rest

-- each name comes before the next in byte order
abbrev pub names_ascend : List MemberTest → Bool
names_ascend [] = true
names_ascend (test ∷ []) = true
names_ascend (test ∷ next ∷ rest) = is_lt (slice_cmp nat_cmp test.name next.name) && names_ascend (next ∷ rest)

-- a request is refused by the first of its members that is not in its form, and then by its joint tests
abbrev pub MembersComeFirst : Type 0
MembersComeFirst = (request : Request) → forms_of request ≡ first_of (member_tests request) (joint_test request)

-- members are tested in ascending byte order of their names, each once
abbrev pub MembersAscend : Type 0
MembersAscend = (request : Request) → names_ascend (member_tests request) ≡ true

-- each test names the member that it is of
abbrev pub TestsNameMembers : Type 0
TestsNameMembers = (request : Request) → EachNames (member_tests request)
