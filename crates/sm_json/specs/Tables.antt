-- The members of each operation, once, in ascending byte order of their names, and the request that they are: the
-- request syntax of each operation in the API Reference.
use Rattle.std.specs.Prelude.{true, false, List, [], ◌∷◌, unwrap_or}
use Rattle.serde_json.specs.Data.{Data}
use Rattle.sm_model.specs.declared.request.BatchGetSecretValue.{BatchGetSecretValue}
use Rattle.sm_model.specs.declared.request.CreateSecret.{CreateSecret}
use Rattle.sm_model.specs.declared.request.DeleteSecret.{DeleteSecret}
use Rattle.sm_model.specs.declared.request.GetRandomPassword.{GetRandomPassword}
use Rattle.sm_model.specs.declared.request.GetSecretValue.{GetSecretValue}
use Rattle.sm_model.specs.declared.request.ListSecretVersionIds.{ListSecretVersionIds}
use Rattle.sm_model.specs.declared.request.ListSecrets.{ListSecrets}
use Rattle.sm_model.specs.declared.request.OfSecret.{OfSecret}
use Rattle.sm_model.specs.declared.request.PutResourcePolicy.{PutResourcePolicy}
use Rattle.sm_model.specs.declared.request.PutSecretValue.{PutSecretValue}
use Rattle.sm_model.specs.declared.request.RegionsOfSecret.{RegionsOfSecret}
use Rattle.sm_model.specs.declared.request.RotateSecret.{RotateSecret}
use Rattle.sm_model.specs.declared.request.TagResource.{TagResource}
use Rattle.sm_model.specs.declared.request.UntagResource.{UntagResource}
use Rattle.sm_model.specs.declared.request.UpdateSecret.{UpdateSecret}
use Rattle.sm_model.specs.declared.request.UpdateSecretVersionStage.{UpdateSecretVersionStage}
use Rattle.sm_model.specs.declared.request.ValidateResourcePolicy.{ValidateResourcePolicy}
use Rattle.sm_json.specs.declared.name.MemberName.TheVariants as names
use Rattle.sm_json.specs.Fields.{Field, may, must, given, wanted}
use Rattle.sm_json.specs.Kinds.{text, truth, integer, binary, list_of, region, tag, filter, rules}

-- BatchGetSecretValue
unfoldable pub batch_get_secret_value_members : List Field
batch_get_secret_value_members =
    may names.Filters (list_of filter)
    ∷ may names.MaxResults integer
    ∷ may names.NextToken text
    ∷ may names.SecretIdList (list_of text) ∷ []

unfoldable pub batch_get_secret_value_in : Data → BatchGetSecretValue
batch_get_secret_value_in json = record {
  filters = given (list_of filter) names.Filters json;
  max_results = given integer names.MaxResults json;
  next_token = given text names.NextToken json;
  secret_id_list = given (list_of text) names.SecretIdList json;
}

-- CancelRotateSecret, DeleteResourcePolicy, DescribeSecret, GetResourcePolicy, RestoreSecret and
-- StopReplicationToReplica
unfoldable pub of_secret_members : List Field
of_secret_members =
    must names.SecretId text ∷ []

unfoldable pub of_secret_in : Data → OfSecret
of_secret_in json = record {
  secret_id = wanted text names.SecretId json;
}

-- CreateSecret
unfoldable pub create_secret_members : List Field
create_secret_members =
    may names.AddReplicaRegions (list_of region)
    ∷ may names.ClientRequestToken text
    ∷ may names.Description text
    ∷ may names.KmsKeyId text
    ∷ must names.Name text
    ∷ may names.SecretBinary binary
    ∷ may names.SecretString text
    ∷ may names.Tags (list_of tag) ∷ []

unfoldable pub create_secret_in : Data → CreateSecret
create_secret_in json = record {
  regions = wanted (list_of region) names.AddReplicaRegions json;
  client_request_token = given text names.ClientRequestToken json;
  description = given text names.Description json;
  kms_key_id = given text names.KmsKeyId json;
  name = wanted text names.Name json;
  secret_binary = given binary names.SecretBinary json;
  secret_string = given text names.SecretString json;
  tags = given (list_of tag) names.Tags json;
}

-- DeleteSecret
unfoldable pub delete_secret_members : List Field
delete_secret_members =
    may names.ForceDeleteWithoutRecovery truth
    ∷ may names.RecoveryWindowInDays integer
    ∷ must names.SecretId text ∷ []

unfoldable pub delete_secret_in : Data → DeleteSecret
delete_secret_in json = record {
  force_delete_without_recovery = unwrap_or (given truth names.ForceDeleteWithoutRecovery json) false;
  recovery_window_in_days = given integer names.RecoveryWindowInDays json;
  secret_id = wanted text names.SecretId json;
}

-- GetRandomPassword
unfoldable pub get_random_password_members : List Field
get_random_password_members =
    may names.ExcludeCharacters text
    ∷ may names.ExcludeLowercase truth
    ∷ may names.ExcludeNumbers truth
    ∷ may names.ExcludePunctuation truth
    ∷ may names.ExcludeUppercase truth
    ∷ may names.IncludeSpace truth
    ∷ may names.PasswordLength integer
    ∷ may names.RequireEachIncludedType truth ∷ []

unfoldable pub get_random_password_in : Data → GetRandomPassword
get_random_password_in json = record {
  exclude_characters = given text names.ExcludeCharacters json;
  exclude_lowercase = unwrap_or (given truth names.ExcludeLowercase json) false;
  exclude_numbers = unwrap_or (given truth names.ExcludeNumbers json) false;
  exclude_punctuation = unwrap_or (given truth names.ExcludePunctuation json) false;
  exclude_uppercase = unwrap_or (given truth names.ExcludeUppercase json) false;
  include_space = unwrap_or (given truth names.IncludeSpace json) false;
  password_length = given integer names.PasswordLength json;
  require_each_included_type = unwrap_or (given truth names.RequireEachIncludedType json) true;
}

-- GetSecretValue
unfoldable pub get_secret_value_members : List Field
get_secret_value_members =
    must names.SecretId text
    ∷ may names.VersionId text
    ∷ may names.VersionStage text ∷ []

unfoldable pub get_secret_value_in : Data → GetSecretValue
get_secret_value_in json = record {
  secret_id = wanted text names.SecretId json;
  version_id = given text names.VersionId json;
  version_stage = given text names.VersionStage json;
}

-- ListSecretVersionIds
unfoldable pub list_secret_version_ids_members : List Field
list_secret_version_ids_members =
    may names.IncludeDeprecated truth
    ∷ may names.MaxResults integer
    ∷ may names.NextToken text
    ∷ must names.SecretId text ∷ []

unfoldable pub list_secret_version_ids_in : Data → ListSecretVersionIds
list_secret_version_ids_in json = record {
  include_deprecated = unwrap_or (given truth names.IncludeDeprecated json) false;
  max_results = given integer names.MaxResults json;
  next_token = given text names.NextToken json;
  secret_id = wanted text names.SecretId json;
}

-- ListSecrets
unfoldable pub list_secrets_members : List Field
list_secrets_members =
    may names.Filters (list_of filter)
    ∷ may names.IncludePlannedDeletion truth
    ∷ may names.MaxResults integer
    ∷ may names.NextToken text
    ∷ may names.SortOrder text ∷ []

unfoldable pub list_secrets_in : Data → ListSecrets
list_secrets_in json = record {
  filters = given (list_of filter) names.Filters json;
  include_planned_deletion = unwrap_or (given truth names.IncludePlannedDeletion json) false;
  max_results = given integer names.MaxResults json;
  next_token = given text names.NextToken json;
  sort_order = given text names.SortOrder json;
}

-- PutResourcePolicy
unfoldable pub put_resource_policy_members : List Field
put_resource_policy_members =
    may names.BlockPublicPolicy truth
    ∷ must names.ResourcePolicy text
    ∷ must names.SecretId text ∷ []

unfoldable pub put_resource_policy_in : Data → PutResourcePolicy
put_resource_policy_in json = record {
  block_public_policy = unwrap_or (given truth names.BlockPublicPolicy json) false;
  resource_policy = wanted text names.ResourcePolicy json;
  secret_id = wanted text names.SecretId json;
}

-- PutSecretValue
unfoldable pub put_secret_value_members : List Field
put_secret_value_members =
    may names.ClientRequestToken text
    ∷ may names.SecretBinary binary
    ∷ must names.SecretId text
    ∷ may names.SecretString text
    ∷ may names.VersionStages (list_of text) ∷ []

unfoldable pub put_secret_value_in : Data → PutSecretValue
put_secret_value_in json = record {
  client_request_token = given text names.ClientRequestToken json;
  secret_binary = given binary names.SecretBinary json;
  secret_id = wanted text names.SecretId json;
  secret_string = given text names.SecretString json;
  version_stages = given (list_of text) names.VersionStages json;
}

-- RemoveRegionsFromReplication
unfoldable pub remove_regions_members : List Field
remove_regions_members =
    must names.RemoveReplicaRegions (list_of text)
    ∷ must names.SecretId text ∷ []

unfoldable pub remove_regions_in : Data → RegionsOfSecret
remove_regions_in json = record {
  regions = wanted (list_of text) names.RemoveReplicaRegions json;
  secret_id = wanted text names.SecretId json;
}

-- ReplicateSecretToRegions
unfoldable pub replicate_secret_members : List Field
replicate_secret_members =
    must names.AddReplicaRegions (list_of region)
    ∷ must names.SecretId text ∷ []

unfoldable pub replicate_secret_in : Data → RegionsOfSecret
replicate_secret_in json = record {
  regions = wanted (list_of region) names.AddReplicaRegions json;
  secret_id = wanted text names.SecretId json;
}

-- RotateSecret
unfoldable pub rotate_secret_members : List Field
rotate_secret_members =
    may names.ClientRequestToken text
    ∷ may names.RotateImmediately truth
    ∷ may names.RotationLambdaARN text
    ∷ may names.RotationRules rules
    ∷ must names.SecretId text ∷ []

unfoldable pub rotate_secret_in : Data → RotateSecret
rotate_secret_in json = record {
  client_request_token = given text names.ClientRequestToken json;
  rotate_immediately = unwrap_or (given truth names.RotateImmediately json) true;
  rotation_lambda_arn = given text names.RotationLambdaARN json;
  rotation_rules = given rules names.RotationRules json;
  secret_id = wanted text names.SecretId json;
}

-- TagResource
unfoldable pub tag_resource_members : List Field
tag_resource_members =
    must names.SecretId text
    ∷ must names.Tags (list_of tag) ∷ []

unfoldable pub tag_resource_in : Data → TagResource
tag_resource_in json = record {
  secret_id = wanted text names.SecretId json;
  tags = wanted (list_of tag) names.Tags json;
}

-- UntagResource
unfoldable pub untag_resource_members : List Field
untag_resource_members =
    must names.SecretId text
    ∷ must names.TagKeys (list_of text) ∷ []

unfoldable pub untag_resource_in : Data → UntagResource
untag_resource_in json = record {
  secret_id = wanted text names.SecretId json;
  tag_keys = wanted (list_of text) names.TagKeys json;
}

-- UpdateSecret
unfoldable pub update_secret_members : List Field
update_secret_members =
    may names.ClientRequestToken text
    ∷ may names.Description text
    ∷ may names.KmsKeyId text
    ∷ may names.SecretBinary binary
    ∷ must names.SecretId text
    ∷ may names.SecretString text ∷ []

unfoldable pub update_secret_in : Data → UpdateSecret
update_secret_in json = record {
  client_request_token = given text names.ClientRequestToken json;
  description = given text names.Description json;
  kms_key_id = given text names.KmsKeyId json;
  secret_binary = given binary names.SecretBinary json;
  secret_id = wanted text names.SecretId json;
  secret_string = given text names.SecretString json;
}

-- UpdateSecretVersionStage
unfoldable pub update_secret_version_stage_members : List Field
update_secret_version_stage_members =
    may names.MoveToVersionId text
    ∷ may names.RemoveFromVersionId text
    ∷ must names.SecretId text
    ∷ must names.VersionStage text ∷ []

unfoldable pub update_secret_version_stage_in : Data → UpdateSecretVersionStage
update_secret_version_stage_in json = record {
  move_to_version_id = given text names.MoveToVersionId json;
  remove_from_version_id = given text names.RemoveFromVersionId json;
  secret_id = wanted text names.SecretId json;
  version_stage = wanted text names.VersionStage json;
}

-- ValidateResourcePolicy
unfoldable pub validate_resource_policy_members : List Field
validate_resource_policy_members =
    must names.ResourcePolicy text
    ∷ may names.SecretId text ∷ []

unfoldable pub validate_resource_policy_in : Data → ValidateResourcePolicy
validate_resource_policy_in json = record {
  resource_policy = wanted text names.ResourcePolicy json;
  secret_id = given text names.SecretId json;
}
