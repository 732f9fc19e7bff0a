-- The messages of a drill.
-- AWS JSON 1.1; AWS Secrets Manager API Reference: CreateSecret, PutSecretValue, GetSecretValue (Request Syntax).
use Rattle.std.specs.Prelude.{ℕ, zero, suc, ◌-◌, List, [], ◌∷◌, ◌++◌, length, replicate, codes, decimal, false}
use Rattle.std.specs.Fmt.{digits}
use Rattle.serde_json.specs.Data.{string, object, Members, no_members, put}
use Rattle.serde_json.specs.Written.{compact_text}
use Rattle.sm_http.specs.Heads.{NameValue}
use Rattle.sm_http.specs.Messages.{Message}
use Rattle.sm_drill.specs.declared.step.Step.{Step}
use Rattle.sm_drill.specs.declared.step.Step.TheVariants.{Create, Put, Get}
use Rattle.sm_drill.specs.Steps.{step_of}
use Rattle.sm_drill.specs.Words.{word_of}

-- a numeral in at least so many digits: zeros stand before it
abbrev pub in_digits : ℕ → List ℕ → List ℕ
in_digits count numeral = replicate (count - length numeral) 48 ++ numeral

-- the name of a secret
unfoldable pub name_of : ℕ → List ℕ
name_of secret = codes "d/" ++ decimal secret

-- the token of message i: its number in 20 digits
unfoldable pub token_of : ℕ → List ℕ
token_of i = codes "drill-token-" ++ in_digits 20 (decimal i)

-- the value of a word: its 8 hexadecimal digits, in lower case
unfoldable pub value_of : ℕ → List ℕ
value_of word = in_digits 8 (digits 16 false word)

-- the members of a request that gives the value and the token of message i to a secret, which this member names
unfoldable pub valued_members : List ℕ → ℕ → ℕ → ℕ → Members
valued_members key secret i word =
    put (codes "SecretString") (string (value_of word))
    (put key (string (name_of secret))
    (put (codes "ClientRequestToken") (string (token_of i)) no_members))

-- the members of a request for the value of a secret
unfoldable pub shown_members : ℕ → Members
shown_members secret = put (codes "SecretId") (string (name_of secret)) no_members

abbrev pub members_of : Step → ℕ → ℕ → Members
members_of (Create secret) i word = valued_members (codes "Name") secret i word
members_of (Put secret) i word = valued_members (codes "SecretId") secret i word
members_of (Get secret) i word = shown_members secret

abbrev pub body_of : Step → ℕ → ℕ → List ℕ
body_of step i word = compact_text (object (members_of step i word))

-- the operation that a step asks for, as messages name it
abbrev pub target_of : Step → List ℕ
target_of (Create secret) = codes "secretsmanager.CreateSecret"
target_of (Put secret) = codes "secretsmanager.PutSecretValue"
target_of (Get secret) = codes "secretsmanager.GetSecretValue"

-- the field that names an operation
abbrev pub target_field : List ℕ → NameValue
target_field target = (codes "X-Amz-Target", target)

-- the message that asks for an operation with a body; nobody has signed it
abbrev pub asking : List ℕ → List ℕ → Message
asking target body = record {
  method = codes "POST";
  path = codes "/";
  fields = target_field target ∷ [];
  closing = false;
  body = body;
}

-- message i by its word
abbrev pub message_by : ℕ → ℕ → Message
message_by i word =
    let step = step_of i word in
    asking (target_of step) (body_of step i word)

-- message i of a number, from 0
abbrev pub message_of : ℕ → ℕ → Message
message_of number i = message_by i (word_of number i)

-- the first messages of a number
abbrev pub messages_of : ℕ → ℕ → List Message
messages_of number zero = []
messages_of number (suc count) = messages_of number count ++ message_of number count ∷ []

-- a drill: its number, and the number of its next message
pub record DrillState : Type 0 where
  pub number : ℕ
  pub at : ℕ
