-- The answers of the rotator of JSON texts.
use Rattle.std.proofs.Common.{◌≡◌, ℕ, Bool, true, false, cond, List, Option, Some, None, is_some, IfSome, option_and_then, refl, sym, ◌∙◌}
use Rattle.serde_json.specs.Data.{Data}
use Rattle.serde_json.specs.Read.{read as read_text}
use Rattle.serde_json.specs.Written.{has_float}
use Rattle.sm_model.specs.declared.entry.At.{At}
use Rattle.sm_model.specs.declared.entry.Answer.{Answer}
use Rattle.sm_model.specs.declared.entry.Answer.TheVariants.{Failed}
use Rattle.sm_model.specs.declared.rows.Stage.{Stage}
use Rattle.sm_model.specs.declared.rows.Stage.TheVariants.{Create, Set, Test, Finish}
use Rattle.sm_model.specs.declared.value.Value.{Value}
use Rattle.sm_model.specs.declared.value.Value.TheVariants.{Text, Bytes}
use Rattle.sm_rotator.specs.Local.{password_of, with_password, credentials_in, credentials, created, yes_if, is_long, local_at, local_answer}

-- ---- the objects that it takes have no float

Plain : Option Data → Type 0
Plain json = IfSome json (λ d. has_float d ≡ false)

with_plain : (json : Data) → has_float json ≡ false → Plain (with_password json)
unfolding Plain
with_plain json h = by (is_some (password_of json))
  where
    by : (b : Bool) → IfSome (cond b (Some json) None) (λ d. has_float d ≡ false)
    by true = h
    by false = tt

in_plain : (json : Data) → Plain (credentials_in json)
unfolding Plain
in_plain json = by (has_float json) refl
  where
    by : (b : Bool) → b ≡ has_float json → IfSome (cond b None (with_password json)) (λ d. has_float d ≡ false)
    by true e = tt
    by false e = with_plain json (sym e)

read_plain : (read : Option Data) → Plain (option_and_then credentials_in read)
unfolding Plain
read_plain None = tt
read_plain (Some json) = in_plain json

value_plain : (value : Value) → Plain (credentials value)
unfolding Plain
value_plain (Text text) = read_plain (read_text text)
value_plain (Bytes bytes) = tt

pub credentials_plain : (value : Option Value)
    → IfSome (option_and_then credentials value) (λ d. has_float d ≡ false)
unfolding Plain
credentials_plain None = tt
credentials_plain (Some value) = value_plain value

-- ---- it answers no failure

yes_no : (agrees : Bool) → yes_if agrees ≡ Failed → ⊥
yes_no true h = cc
yes_no false h = cc

created_no : (token : List ℕ) (current : Option Data) → created token current ≡ Failed → ⊥
created_no token None h = cc
created_no token (Some json) h = cc

at_no : (token : List ℕ) (current pending : Option Data) (stage : Stage) → local_at token current pending stage ≡ Failed
    → ⊥
at_no token current pending Create h = created_no token current h
at_no token current pending Set h = yes_no (is_some pending) h
at_no token current pending Test h = yes_no (is_long (option_and_then password_of pending)) h
at_no token current pending Finish h = cc

pub local_is_no_failure : (at : At) (current pending : Option Value) (answer : Answer)
    → answer ≡ local_answer at current pending → answer ≡ Failed → ⊥
local_is_no_failure at current pending answer e h =
    at_no at.token (option_and_then credentials current) (option_and_then credentials pending) at.stage (sym e ∙ h)
