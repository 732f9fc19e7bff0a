-- What a request asks of the policy of the secret that it names.
-- Service Authorization Reference, "Actions, resources, and condition keys for AWS Secrets Manager"; AWS Secrets
-- Manager API Reference, GetSecretValue (VersionId, VersionStage) and BatchGetSecretValue.
use Rattle.std.specs.Prelude.{ℕ, Bool, false, is_some, List, codes, Option, Some, None, option_map}
use Rattle.sm_model.specs.declared.request.GetSecretValue.{GetSecretValue}
use Rattle.sm_model.specs.declared.request.Request.{Request}
use Rattle.sm_model.specs.declared.request.Request.TheVariants as requests
use Rattle.sm_model.specs.declared.request.UpdateSecretVersionStage.{UpdateSecretVersionStage}
use Rattle.sm_model.specs.declared.request.ValidateResourcePolicy.{ValidateResourcePolicy}
use Rattle.sm_model.specs.Labels.{aws_current}
use Rattle.sm_access.specs.declared.access_requests.AccessRequest.{AccessRequest}

-- an action on a secret, and which version and label of it the request names
pub record PlainAccessRequest : Type 0 where
  pub action : List ℕ
  pub secret_id : List ℕ
  pub version_id : Option (List ℕ)
  pub version_stage : Option (List ℕ)

abbrev pub plain_access_request : AccessRequest → PlainAccessRequest
plain_access_request access_request = record {
  action = access_request.action.now;
  secret_id = access_request.secret_id.now;
  version_id = option_map (λ t. t.now) access_request.version_id;
  version_stage = option_map (λ t. t.now) access_request.version_stage;
}

-- an action on a secret, of which no version and no label is named
abbrev pub access_request_on : List ℕ → List ℕ → PlainAccessRequest
access_request_on action id = record { action = action; secret_id = id; version_id = None; version_stage = None }

-- a GetSecretValue that names neither a version nor a label asks for AWSCURRENT
abbrev pub label_asked : Option (List ℕ) → Option (List ℕ) → Option (List ℕ)
label_asked version (Some label) = Some label
label_asked (Some id) None = None
label_asked None None = Some aws_current

abbrev pub get_access_request : GetSecretValue → PlainAccessRequest
get_access_request get = record {
  action = codes "secretsmanager:GetSecretValue";
  secret_id = get.secret_id;
  version_id = get.version_id;
  version_stage = label_asked get.version_id get.version_stage;
}

-- an UpdateSecretVersionStage names its label
abbrev pub move_access_request : UpdateSecretVersionStage → PlainAccessRequest
move_access_request update = record {
  action = codes "secretsmanager:UpdateSecretVersionStage";
  secret_id = update.secret_id;
  version_id = None;
  version_stage = Some update.version_stage;
}

-- a ValidateResourcePolicy may name a secret
abbrev pub validation_access_request : ValidateResourcePolicy → Option PlainAccessRequest
validation_access_request validate =
    option_map (access_request_on (codes "secretsmanager:ValidateResourcePolicy")) validate.secret_id

-- what a request asks, where it names a secret
abbrev pub access_request_of : Request → Option PlainAccessRequest
access_request_of (requests.BatchGetSecretValue batch) = None
access_request_of (requests.CancelRotateSecret cancel) =
    Some (access_request_on (codes "secretsmanager:CancelRotateSecret") cancel.secret_id)
access_request_of (requests.CreateSecret create) = None
access_request_of (requests.DeleteResourcePolicy delete) =
    Some (access_request_on (codes "secretsmanager:DeleteResourcePolicy") delete.secret_id)
access_request_of (requests.DeleteSecret delete) =
    Some (access_request_on (codes "secretsmanager:DeleteSecret") delete.secret_id)
access_request_of (requests.DescribeSecret describe) =
    Some (access_request_on (codes "secretsmanager:DescribeSecret") describe.secret_id)
access_request_of (requests.GetRandomPassword get) = None
access_request_of (requests.GetResourcePolicy get) =
    Some (access_request_on (codes "secretsmanager:GetResourcePolicy") get.secret_id)
access_request_of (requests.GetSecretValue get) = Some (get_access_request get)
access_request_of (requests.ListSecretVersionIds list) =
    Some (access_request_on (codes "secretsmanager:ListSecretVersionIds") list.secret_id)
access_request_of (requests.ListSecrets list) = None
access_request_of (requests.PutResourcePolicy put) =
    Some (access_request_on (codes "secretsmanager:PutResourcePolicy") put.secret_id)
access_request_of (requests.PutSecretValue put) =
    Some (access_request_on (codes "secretsmanager:PutSecretValue") put.secret_id)
access_request_of (requests.RemoveRegionsFromReplication remove) =
    Some (access_request_on (codes "secretsmanager:RemoveRegionsFromReplication") remove.secret_id)
access_request_of (requests.ReplicateSecretToRegions replicate) =
    Some (access_request_on (codes "secretsmanager:ReplicateSecretToRegions") replicate.secret_id)
access_request_of (requests.RestoreSecret restore) =
    Some (access_request_on (codes "secretsmanager:RestoreSecret") restore.secret_id)
access_request_of (requests.RotateSecret rotate) =
    Some (access_request_on (codes "secretsmanager:RotateSecret") rotate.secret_id)
access_request_of (requests.StopReplicationToReplica stop) =
    Some (access_request_on (codes "secretsmanager:StopReplicationToReplica") stop.secret_id)
access_request_of (requests.TagResource tag) =
    Some (access_request_on (codes "secretsmanager:TagResource") tag.secret_id)
access_request_of (requests.UntagResource untag) =
    Some (access_request_on (codes "secretsmanager:UntagResource") untag.secret_id)
access_request_of (requests.UpdateSecret update) =
    Some (access_request_on (codes "secretsmanager:UpdateSecret") update.secret_id)
access_request_of (requests.UpdateSecretVersionStage update) = Some (move_access_request update)
access_request_of (requests.ValidateResourcePolicy validate) = validation_access_request validate

-- a batch by SecretIds asks nothing for itself: each of its secrets is asked for alone
abbrev pub asks_nothing : Request → Bool
asks_nothing (requests.BatchGetSecretValue batch) = is_some batch.secret_id_list
asks_nothing _ = false
