-- The action of a request has the name of its operation.
use Rattle.std.proofs.Common.{◌≡◌, ◌++◌, List, ℕ, Option, None, Some, IfSome, option_map, codes, refl, subst}
use Rattle.serde_json.specs.Data.{Data}
use Rattle.sm_access.specs.AccessRequests.{access_request_of, access_request_on}
use Rattle.sm_json.specs.Asks.{members_of, refused_or, request_in}
use Rattle.sm_json.specs.Fields.{Flaw, first_fault}
use Rattle.sm_json.specs.Operations.{name_of}
use Rattle.sm_json.specs.Tables.{validate_resource_policy_in}
use Rattle.sm_json.specs.declared.fields.Mark.TheVariants.{Bad, LeftOut}
use Rattle.sm_json.specs.declared.operation.Operation.{Operation}
use Rattle.sm_json.specs.declared.operation.Operation.TheVariants as named
use Rattle.sm_json.specs.declared.requests.ReadRequest.{ReadRequest}
use Rattle.sm_json.specs.declared.requests.ReadRequest.TheVariants as answers
use Rattle.sm_model.specs.declared.request.Request.{Request}
use Rattle.sm_follow.specs.Actions.{ActionsAreNamed}

-- the action has this name, where there is one
abbrev IsNamed : Operation → Request → Type 0
IsNamed operation request =
    IfSome (access_request_of request) (λ access. access.action ≡ codes "secretsmanager:" ++ name_of operation)

-- what is asked for is what the members are
same_request : (fault : Option Flaw) (is request : Request) → refused_or fault is ≡ answers.Ok request → is ≡ request
same_request None is request same = let ok : answers.Ok is ≡ answers.Ok request = same in cc
same_request (Some (name, Bad)) is request same =
    absurd (let bad : answers.BadMember _ ≡ answers.Ok request = same in cc)
same_request (Some (name, LeftOut)) is request same =
    absurd (let left : answers.Left _ ≡ answers.Ok request = same in cc)

-- a ValidateResourcePolicy may name a secret
validates : (id : Option (List ℕ))
    → IfSome (option_map (access_request_on (codes "secretsmanager:ValidateResourcePolicy")) id)
    (λ access. access.action ≡ codes "secretsmanager:" ++ codes "ValidateResourcePolicy")
validates None = tt
validates (Some id) = refl

by_operation : (operation : Operation) (json : Data) → IsNamed operation (request_in operation json)
by_operation named.BatchGetSecretValue json = tt
by_operation named.CancelRotateSecret json = refl
by_operation named.CreateSecret json = tt
by_operation named.DeleteResourcePolicy json = refl
by_operation named.DeleteSecret json = refl
by_operation named.DescribeSecret json = refl
by_operation named.GetRandomPassword json = tt
by_operation named.GetResourcePolicy json = refl
by_operation named.GetSecretValue json = refl
by_operation named.ListSecretVersionIds json = refl
by_operation named.ListSecrets json = tt
by_operation named.PutResourcePolicy json = refl
by_operation named.PutSecretValue json = refl
by_operation named.RemoveRegionsFromReplication json = refl
by_operation named.ReplicateSecretToRegions json = refl
by_operation named.RestoreSecret json = refl
by_operation named.RotateSecret json = refl
by_operation named.StopReplicationToReplica json = refl
by_operation named.TagResource json = refl
by_operation named.UntagResource json = refl
by_operation named.UpdateSecret json = refl
by_operation named.UpdateSecretVersionStage json = refl
by_operation named.ValidateResourcePolicy json = validates (validate_resource_policy_in json).secret_id

pub actions_named : ActionsAreNamed
actions_named operation json request same =
    subst (IsNamed operation)
    (same_request (first_fault (members_of operation) json) (request_in operation json) request same)
    (by_operation operation json)
