-- The message by which a question is put to a server, and the bodies of refusals.
-- AWS Secrets Manager API Reference, GetSecretValue (Request Syntax); RFC 9112.
use Rattle.std.specs.Prelude.{ℕ, List, ◌++◌, length, codes, decimal, Option, Some, None}
use Rattle.serde_json.specs.Data.{string, object, Members, no_members, put}
use Rattle.serde_json.specs.Written.{compact_text}
use Rattle.sm_agent.specs.declared.question.Question.{Question}

-- the members with a text more, where it is there
abbrev pub put_text : List ℕ → Option (List ℕ) → Members → Members
put_text name None members = members
put_text name (Some text) members = put name (string text) members

-- the members of the body
unfoldable pub question_members : Question → Members
question_members question =
    put_text (codes "VersionStage") question.version_stage
    (put_text (codes "VersionId") question.version_id
    (put (codes "SecretId") (string question.secret_id) no_members))

-- the body
abbrev pub question_body : Question → List ℕ
question_body question = compact_text (object (question_members question))

-- what stands before a body of this size, behind which nothing more is sent
unfoldable pub asking_head : List ℕ → ℕ → List ℕ
asking_head host size =
    codes "POST / HTTP/1.1\r\nHost: " ++ host
    ++ codes "\r\nX-Amz-Target: secretsmanager.GetSecretValue\r\nContent-Type: application/x-amz-json-1.1\r\n"
    ++ codes "Connection: close\r\nContent-Length: " ++ decimal size ++ codes "\r\n\r\n"

-- the message that puts a question to a host
abbrev pub asking : List ℕ → Question → List ℕ
asking host question = asking_head host (length (question_body question)) ++ question_body question

-- the members of a refusal
unfoldable pub refusal_members : List ℕ → List ℕ → Members
refusal_members message error = put (codes "__type") (string error) (put (codes "Message") (string message) no_members)

-- its body
abbrev pub refusal_body : List ℕ → List ℕ → List ℕ
refusal_body message error = compact_text (object (refusal_members message error))
