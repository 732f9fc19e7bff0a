-- How many random bytes a request needs.
-- AWS Secrets Manager API Reference: CreateSecret (ARN, ClientRequestToken), PutSecretValue, RotateSecret,
-- UpdateSecret, and
-- GetRandomPassword (PasswordLength).
use Rattle.std.specs.Prelude.{ℕ, ℤ, pos, negsuc, ◌+◌, ◌*◌, Bool, ◌||◌, ◌&&◌, nat_le, List, Option, Some, None, is_some, if◌then◌else◌}
use Rattle.sm_base.specs.declared.limits.TheConstants.{PASSWORD_LENGTH, PASSWORD_LIMIT}
use Rattle.sm_model.specs.declared.request.Request.{Request}
use Rattle.sm_model.specs.declared.request.Request.TheVariants as requests

-- the bytes of a token, where the request has none
abbrev pub token_bytes : Option (List ℕ) → ℕ
token_bytes token = if is_some token then 0 else 16

-- four bytes for each character of a password; a request that asks for a length past the limits is refused
abbrev pub bytes_of_length : ℤ → ℕ
bytes_of_length (pos length) = if nat_le 1 length && nat_le length PASSWORD_LIMIT then 4 * length else 0
bytes_of_length (negsuc n) = 0

-- the bytes of a password, also where no length is asked for
abbrev pub password_bytes : Option ℤ → ℕ
password_bytes None = bytes_of_length (pos PASSWORD_LENGTH)
password_bytes (Some length) = bytes_of_length length

-- the bytes of a token, where the condition holds
abbrev pub token_bytes_if : Bool → Option (List ℕ) → ℕ
token_bytes_if wanted token = if wanted then token_bytes token else 0

-- CreateSecret needs six bytes for the end of its ARN, and those of a token where it has a value. PutSecretValue needs
-- those of a
-- token, UpdateSecret too where it has a value, and RotateSecret where it rotates immediately. The other operations
-- need none.
abbrev pub needed : Request → ℕ
needed (requests.BatchGetSecretValue r) = 0
needed (requests.CancelRotateSecret r) = 0
needed (requests.CreateSecret r) = 6 + token_bytes_if (is_some r.secret_string || is_some r.secret_binary)
    r.client_request_token
needed (requests.DeleteResourcePolicy r) = 0
needed (requests.DeleteSecret r) = 0
needed (requests.DescribeSecret r) = 0
needed (requests.GetRandomPassword r) = password_bytes r.password_length
needed (requests.GetResourcePolicy r) = 0
needed (requests.GetSecretValue r) = 0
needed (requests.ListSecretVersionIds r) = 0
needed (requests.ListSecrets r) = 0
needed (requests.PutResourcePolicy r) = 0
needed (requests.PutSecretValue r) = token_bytes r.client_request_token
needed (requests.RemoveRegionsFromReplication r) = 0
needed (requests.ReplicateSecretToRegions r) = 0
needed (requests.RestoreSecret r) = 0
needed (requests.RotateSecret r) = token_bytes_if r.rotate_immediately r.client_request_token
needed (requests.StopReplicationToReplica r) = 0
needed (requests.TagResource r) = 0
needed (requests.UntagResource r) = 0
needed (requests.UpdateSecret r) = token_bytes_if (is_some r.secret_string || is_some r.secret_binary)
    r.client_request_token
needed (requests.UpdateSecretVersionStage r) = 0
needed (requests.ValidateResourcePolicy r) = 0
