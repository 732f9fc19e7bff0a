-- The answers of a rotator that changes the password in a JSON text.
-- AWS Secrets Manager User Guide: "JSON structure of AWS Secrets Manager database credential secrets", "Lambda rotation
-- functions".
use Rattle.std.specs.Prelude.{ℕ, Bool, false, nat_le, ◌++◌, List, length, codes, Option, Some, None, is_some, option_and_then, if◌then◌else◌}
use Rattle.std.specs.Str.{chars}
use Rattle.serde_json.specs.Data.{Data, null, boolean, number, string, array, object, put}
use Rattle.serde_json.specs.Find.{get, as_str}
use Rattle.serde_json.specs.Read.{read as read_text}
use Rattle.serde_json.specs.Written.{has_float, compact_text}
use Rattle.sm_model.specs.declared.entry.At.{At}
use Rattle.sm_model.specs.declared.entry.Answer.{Answer}
use Rattle.sm_model.specs.declared.entry.Answer.TheVariants.{Value as Made, Yes, No}
use Rattle.sm_model.specs.declared.rows.Stage.{Stage}
use Rattle.sm_model.specs.declared.rows.Stage.TheVariants.{Create, Set, Test, Finish}
use Rattle.sm_model.specs.declared.value.Value.{Value}
use Rattle.sm_model.specs.declared.value.Value.TheVariants.{Text, Bytes}

-- the name of the member that is changed
unfoldable pub password_name : List ℕ
password_name = codes "password"

-- the text that is an object's password
abbrev pub password_of : Data → Option (List ℕ)
password_of json = option_and_then as_str (get password_name json)

-- the object, where it has a text as its password
abbrev pub with_password : Data → Option Data
with_password json = if is_some (password_of json) then Some json else None

-- and where all its numbers are whole
abbrev pub credentials_in : Data → Option Data
credentials_in json = if has_float json then None else with_password json

-- the object with a password that a value is
abbrev pub credentials : Value → Option Data
credentials (Text text) = option_and_then credentials_in (read_text text)
credentials (Bytes bytes) = None

-- the password that createSecret makes
unfoldable pub made_password : List ℕ → List ℕ
made_password token = codes "rotated-" ++ token

-- the object with another password
abbrev pub with_other : List ℕ → Data → Data
with_other password null = null
with_other password (boolean b) = boolean b
with_other password (number n) = number n
with_other password (string s) = string s
with_other password (array items) = array items
with_other password (object members) = object (put password_name (string password) members)

-- createSecret: the text of the current object with a password of the token
abbrev pub created : List ℕ → Option Data → Answer
created token None = No
created token (Some json) = Made (Text (compact_text (with_other (made_password token) json)))

abbrev pub yes_if : Bool → Answer
yes_if agrees = if agrees then Yes else No

-- a password of at least eight characters
abbrev pub is_long : Option (List ℕ) → Bool
is_long None = false
is_long (Some password) = nat_le 8 (length (chars password))

-- the answer to a stage, by the objects that the current and the pending value are
abbrev pub local_at : List ℕ → Option Data → Option Data → Stage → Answer
local_at token current pending Create = created token current
local_at token current pending Set = yes_if (is_some pending)
local_at token current pending Test = yes_if (is_long (option_and_then password_of pending))
local_at token current pending Finish = Yes

-- the answer to a step
abbrev pub local_answer : At → Option Value → Option Value → Answer
local_answer at current pending =
    local_at at.token (option_and_then credentials current) (option_and_then credentials pending) at.stage
