-- The members of a request: AWS Secrets Manager API Reference, CreateSecret and PutSecretValue (ClientRequestToken,
-- SecretString, SecretBinary).
use Rattle.std.specs.Prelude.{ℕ, List, take, Option, Some, None}
use Rattle.sm_model.specs.declared.value.Value.{Value}
use Rattle.sm_model.specs.declared.value.Value.TheVariants as values
use Rattle.sm_base.specs.Drawn.{drawn_token}

-- a token that is given, or the one of the first 16 random bytes
abbrev pub token_or_drawn : Option (List ℕ) → List ℕ → List ℕ
token_or_drawn (Some token) bytes = token
token_or_drawn None bytes = drawn_token (take 16 bytes)

-- the value that two members give, of which one at most is there
abbrev pub value_of : Option (List ℕ) → Option (List ℕ) → Option Value
value_of (Some text) binary = Some (values.Text text)
value_of None (Some bytes) = Some (values.Bytes bytes)
value_of None None = None
