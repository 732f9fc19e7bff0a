-- What a message asks for: AWS JSON 1.1 (the JSON object of the body), and the members of the API Reference.
use Rattle.std.specs.Prelude.{ℕ, ◌==◌, if◌then◌else◌, List, length, Option, Some, None, option_and_then}
use Rattle.std.specs.Str.{is_utf8}
use Rattle.serde_json.specs.Data as shapes
use Rattle.serde_json.specs.Data.{Data}
use Rattle.serde_json.specs.Find.{as_object}
use Rattle.serde_json.specs.Read.{read}
use Rattle.sm_model.specs.declared.request.Request.{Request}
use Rattle.sm_model.specs.declared.request.Request.TheVariants as requests
use Rattle.sm_json.specs.declared.fields.Mark.TheVariants.{Bad, LeftOut}
use Rattle.sm_json.specs.declared.operation.Operation.{Operation}
use Rattle.sm_json.specs.declared.operation.Operation.TheVariants as named
use Rattle.sm_json.specs.declared.requests.ReadRequest.{ReadRequest}
use Rattle.sm_json.specs.declared.requests.ReadRequest.TheVariants as answers
use Rattle.sm_json.specs.Fields.{Field, Flaw, first_fault}
use Rattle.sm_json.specs.Names.{spelled}
use Rattle.sm_json.specs.Operations.{operation_of}
use Rattle.sm_json.specs.Tables.{batch_get_secret_value_members, batch_get_secret_value_in, of_secret_members, of_secret_in, create_secret_members, create_secret_in, delete_secret_members, delete_secret_in, get_random_password_members, get_random_password_in, get_secret_value_members, get_secret_value_in, list_secret_version_ids_members, list_secret_version_ids_in, list_secrets_members, list_secrets_in, put_resource_policy_members, put_resource_policy_in, put_secret_value_members, put_secret_value_in, remove_regions_members, remove_regions_in, replicate_secret_members, replicate_secret_in, rotate_secret_members, rotate_secret_in, tag_resource_members, tag_resource_in, untag_resource_members, untag_resource_in, update_secret_members, update_secret_in, update_secret_version_stage_members, update_secret_version_stage_in, validate_resource_policy_members, validate_resource_policy_in}

-- what a text is as JSON
abbrev pub json_of : List ℕ → Option Data
json_of text = if is_utf8 text then read text else None

-- the value, if it is an object
abbrev pub object_if : Data → Option shapes.Members → Option Data
object_if value None = None
object_if value (Some found) = Some value

abbrev pub object_only : Data → Option Data
object_only value = object_if value (as_object value)

-- the object that a body is; an empty body is one without members
abbrev pub object_of : List ℕ → Option Data
object_of body = if length body == 0 then Some (shapes.object shapes.no_members)
    else option_and_then object_only (json_of body)

-- the members of each operation
abbrev pub members_of : Operation → List Field
members_of named.BatchGetSecretValue = batch_get_secret_value_members
members_of named.CancelRotateSecret = of_secret_members
members_of named.CreateSecret = create_secret_members
members_of named.DeleteResourcePolicy = of_secret_members
members_of named.DeleteSecret = delete_secret_members
members_of named.DescribeSecret = of_secret_members
members_of named.GetRandomPassword = get_random_password_members
members_of named.GetResourcePolicy = of_secret_members
members_of named.GetSecretValue = get_secret_value_members
members_of named.ListSecretVersionIds = list_secret_version_ids_members
members_of named.ListSecrets = list_secrets_members
members_of named.PutResourcePolicy = put_resource_policy_members
members_of named.PutSecretValue = put_secret_value_members
members_of named.RemoveRegionsFromReplication = remove_regions_members
members_of named.ReplicateSecretToRegions = replicate_secret_members
members_of named.RestoreSecret = of_secret_members
members_of named.RotateSecret = rotate_secret_members
members_of named.StopReplicationToReplica = of_secret_members
members_of named.TagResource = tag_resource_members
members_of named.UntagResource = untag_resource_members
members_of named.UpdateSecret = update_secret_members
members_of named.UpdateSecretVersionStage = update_secret_version_stage_members
members_of named.ValidateResourcePolicy = validate_resource_policy_members

-- the request that the members of an object are, where nothing is wrong with them
abbrev pub request_in : Operation → Data → Request
request_in named.BatchGetSecretValue json = requests.BatchGetSecretValue (batch_get_secret_value_in json)
request_in named.CancelRotateSecret json = requests.CancelRotateSecret (of_secret_in json)
request_in named.CreateSecret json = requests.CreateSecret (create_secret_in json)
request_in named.DeleteResourcePolicy json = requests.DeleteResourcePolicy (of_secret_in json)
request_in named.DeleteSecret json = requests.DeleteSecret (delete_secret_in json)
request_in named.DescribeSecret json = requests.DescribeSecret (of_secret_in json)
request_in named.GetRandomPassword json = requests.GetRandomPassword (get_random_password_in json)
request_in named.GetResourcePolicy json = requests.GetResourcePolicy (of_secret_in json)
request_in named.GetSecretValue json = requests.GetSecretValue (get_secret_value_in json)
request_in named.ListSecretVersionIds json = requests.ListSecretVersionIds (list_secret_version_ids_in json)
request_in named.ListSecrets json = requests.ListSecrets (list_secrets_in json)
request_in named.PutResourcePolicy json = requests.PutResourcePolicy (put_resource_policy_in json)
request_in named.PutSecretValue json = requests.PutSecretValue (put_secret_value_in json)
request_in named.RemoveRegionsFromReplication json =
    requests.RemoveRegionsFromReplication (remove_regions_in json)
request_in named.ReplicateSecretToRegions json = requests.ReplicateSecretToRegions (replicate_secret_in json)
request_in named.RestoreSecret json = requests.RestoreSecret (of_secret_in json)
request_in named.RotateSecret json = requests.RotateSecret (rotate_secret_in json)
request_in named.StopReplicationToReplica json = requests.StopReplicationToReplica (of_secret_in json)
request_in named.TagResource json = requests.TagResource (tag_resource_in json)
request_in named.UntagResource json = requests.UntagResource (untag_resource_in json)
request_in named.UpdateSecret json = requests.UpdateSecret (update_secret_in json)
request_in named.UpdateSecretVersionStage json = requests.UpdateSecretVersionStage (update_secret_version_stage_in json)
request_in named.ValidateResourcePolicy json = requests.ValidateResourcePolicy (validate_resource_policy_in json)

-- the refusal of a member
abbrev pub refused : Flaw → ReadRequest
refused (name, Bad) = answers.BadMember (spelled name)
refused (name, LeftOut) = answers.Left (spelled name)

-- the first member with which something is wrong, or the request
abbrev pub refused_or : Option Flaw → Request → ReadRequest
refused_or None request = answers.Ok request
refused_or (Some flaw) request = refused flaw

-- what an object asks for under an operation
abbrev pub asked : Operation → Data → ReadRequest
asked operation json = refused_or (first_fault (members_of operation) json) (request_in operation json)

abbrev pub asked_if : Operation → Option Data → ReadRequest
asked_if operation None = answers.NotJson
asked_if operation (Some json) = asked operation json

-- what a body asks for under an operation
abbrev pub asks_of : Operation → List ℕ → ReadRequest
asks_of operation body = asked_if operation (object_of body)

-- what a message asks for by its target and its body
abbrev pub asks_if : Option Operation → List ℕ → ReadRequest
asks_if None body = answers.Unknown
asks_if (Some operation) body = asks_of operation body

abbrev pub asks : List ℕ → List ℕ → ReadRequest
asks target body = asks_if (operation_of target) body

-- the answer, or none where memory is wanted
abbrev pub told : ReadRequest → Option ReadRequest
told (answers.Ok request) = Some (answers.Ok request)
told answers.Unknown = Some answers.Unknown
told answers.NotJson = Some answers.NotJson
told (answers.BadMember name) = Some (answers.BadMember name)
told (answers.Left name) = Some (answers.Left name)
told answers.Memory = None
