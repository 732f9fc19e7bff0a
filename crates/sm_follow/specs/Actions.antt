-- The action that a request asks a policy for: Service Authorization Reference, "Actions, resources, and condition keys
-- for AWS Secrets Manager".
use Rattle.std.specs.Prelude.{◌≡◌, ◌++◌, IfSome, codes}
use Rattle.serde_json.specs.Data.{Data}
use Rattle.sm_access.specs.AccessRequests.{access_request_of}
use Rattle.sm_json.specs.Asks.{asked}
use Rattle.sm_json.specs.Operations.{name_of}
use Rattle.sm_json.specs.declared.operation.Operation.{Operation}
use Rattle.sm_json.specs.declared.requests.ReadRequest.TheVariants as answers
use Rattle.sm_model.specs.declared.request.Request.{Request}

-- where a request asks a policy for an action, this is the service's name and the name of the operation that was asked
-- for
abbrev pub ActionsAreNamed : Type 0
ActionsAreNamed = (operation : Operation) (json : Data) (request : Request)
    → asked operation json ≡ answers.Ok request
    → IfSome (access_request_of request) (λ access. access.action ≡ codes "secretsmanager:" ++ name_of operation)
