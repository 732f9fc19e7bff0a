-- The operations of the API, and the field that names one: AWS JSON 1.1 (X-Amz-Target), and the API Reference's
-- Actions.
use Rattle.std.specs.Prelude.{ℕ, if◌then◌else◌, nat_eq, List, [], ◌∷◌, drop, Option, Some, None, option_and_then, codes}
use Rattle.std.specs.List.{starts_with}
use Rattle.std.specs.Str.{bytes_eq}
use Rattle.sm_json.specs.declared.operation.Operation.{Operation}
use Rattle.sm_json.specs.declared.operation.Operation.TheVariants.{BatchGetSecretValue, CancelRotateSecret, CreateSecret, DeleteResourcePolicy, DeleteSecret, DescribeSecret, GetRandomPassword, GetResourcePolicy, GetSecretValue, ListSecretVersionIds, ListSecrets, PutResourcePolicy, PutSecretValue, RemoveRegionsFromReplication, ReplicateSecretToRegions, RestoreSecret, RotateSecret, StopReplicationToReplica, TagResource, UntagResource, UpdateSecret, UpdateSecretVersionStage, ValidateResourcePolicy}

-- an operation's name
abbrev pub name_of : Operation → List ℕ
name_of BatchGetSecretValue = codes "BatchGetSecretValue"
name_of CancelRotateSecret = codes "CancelRotateSecret"
name_of CreateSecret = codes "CreateSecret"
name_of DeleteResourcePolicy = codes "DeleteResourcePolicy"
name_of DeleteSecret = codes "DeleteSecret"
name_of DescribeSecret = codes "DescribeSecret"
name_of GetRandomPassword = codes "GetRandomPassword"
name_of GetResourcePolicy = codes "GetResourcePolicy"
name_of GetSecretValue = codes "GetSecretValue"
name_of ListSecretVersionIds = codes "ListSecretVersionIds"
name_of ListSecrets = codes "ListSecrets"
name_of PutResourcePolicy = codes "PutResourcePolicy"
name_of PutSecretValue = codes "PutSecretValue"
name_of RemoveRegionsFromReplication = codes "RemoveRegionsFromReplication"
name_of ReplicateSecretToRegions = codes "ReplicateSecretToRegions"
name_of RestoreSecret = codes "RestoreSecret"
name_of RotateSecret = codes "RotateSecret"
name_of StopReplicationToReplica = codes "StopReplicationToReplica"
name_of TagResource = codes "TagResource"
name_of UntagResource = codes "UntagResource"
name_of UpdateSecret = codes "UpdateSecret"
name_of UpdateSecretVersionStage = codes "UpdateSecretVersionStage"
name_of ValidateResourcePolicy = codes "ValidateResourcePolicy"

-- all operations
abbrev pub operations : List Operation
operations =
    BatchGetSecretValue ∷ CancelRotateSecret ∷ CreateSecret ∷ DeleteResourcePolicy
    ∷ DeleteSecret ∷ DescribeSecret ∷ GetRandomPassword ∷ GetResourcePolicy
    ∷ GetSecretValue ∷ ListSecretVersionIds ∷ ListSecrets ∷ PutResourcePolicy
    ∷ PutSecretValue ∷ RemoveRegionsFromReplication ∷ ReplicateSecretToRegions ∷ RestoreSecret
    ∷ RotateSecret ∷ StopReplicationToReplica ∷ TagResource ∷ UntagResource
    ∷ UpdateSecret ∷ UpdateSecretVersionStage ∷ ValidateResourcePolicy ∷ []

-- the first of some operations that has the name
abbrev pub find_named : List ℕ → List Operation → Option Operation
find_named name [] = None
find_named name (operation ∷ operations) = if bytes_eq (name_of operation) name then Some operation
    else find_named name operations

-- the operation of a name
unfoldable pub operation_named : List ℕ → Option Operation
operation_named name = find_named name operations

-- what stands behind the service's name
abbrev pub after_service : List ℕ → Option (List ℕ)
after_service target = if starts_with nat_eq target (codes "secretsmanager.") then Some (drop 15 target) else None

-- the operation that a target names
abbrev pub operation_of : List ℕ → Option Operation
operation_of target = option_and_then operation_named (after_service target)
