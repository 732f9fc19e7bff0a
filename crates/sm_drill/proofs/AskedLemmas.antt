-- What is read of a drill's bodies.
use Rattle.std.proofs.Common.{◌≡◌, ◌≤◌, ◌==◌, ℕ, suc, false, List, [], ◌∷◌, length, codes, Some, option_and_then, refl, ap, ◌∙◌, arith}
use Rattle.std.proofs.lemmas.Bool.Decides.{nat_tests}
use Rattle.std.specs.Str.{IsUtf8}
use Rattle.serde_json.specs.Data.{Members, depth, object}
use Rattle.serde_json.specs.Read.{max_depth, read}
use Rattle.serde_json.specs.Written.{compact_text, members_text}
use Rattle.sm_http.specs.Heads.{NameValue, field_of}
use Rattle.sm_json.specs.declared.operation.Operation.{Operation}
use Rattle.sm_json.specs.declared.operation.Operation.TheVariants as named
use Rattle.sm_json.specs.declared.requests.ReadRequest.TheVariants as answers
use Rattle.sm_json.specs.Asks.{asked, asked_if, asks, json_of, object_of, object_only}
use Rattle.sm_json.specs.Fields.{fault_of, given, left, may, member_of, must}
use Rattle.sm_json.specs.Kinds.{binary, list_of, region, tag, text}
use Rattle.sm_json.specs.Names.{spelled}
use Rattle.sm_json.specs.Operations.{operation_named}
use Rattle.sm_json.specs.Tables.{create_secret_in, create_secret_members, get_secret_value_in, get_secret_value_members, put_secret_value_in, put_secret_value_members}
use Rattle.sm_json.proofs.BodyLemmas.{is_json}
use Rattle.sm_drill.specs.declared.step.Step.{Step}
use Rattle.sm_drill.specs.declared.step.Step.TheVariants.{Create, Put, Get}
use Rattle.sm_drill.specs.Asked.{request_by}
use Rattle.sm_drill.specs.Messages.{body_of, members_of, shown_members, target_field, target_of, valued_members}

-- the operation of a step
operation : Step → Operation
operation (Create secret) = named.CreateSecret
operation (Put secret) = named.PutSecretValue
operation (Get secret) = named.GetSecretValue

-- the members are those of the request
members_ask : (step : Step) (i word : ℕ)
    → asked (operation step) (object (members_of step i word)) ≡ answers.Ok (request_by step i word)
unfolding operation valued_members shown_members create_secret_members create_secret_in put_secret_value_members
    put_secret_value_in get_secret_value_members get_secret_value_in may must left fault_of given member_of
    text binary list_of region tag spelled
members_ask (Create secret) i word = refl
members_ask (Put secret) i word = refl
members_ask (Get secret) i word = refl

-- the target names it
target_names : (step : Step) (body : List ℕ) → asks (target_of step) body ≡ asked_if (operation step) (object_of body)
unfolding operation operation_named
target_names (Create secret) body = refl
target_names (Put secret) body = refl
target_names (Get secret) body = refl

shallow : (step : Step) (i word : ℕ) → depth (object (members_of step i word)) ≤ max_depth
unfolding valued_members shown_members
shallow (Create secret) i word = omega arith
shallow (Put secret) i word = omega arith
shallow (Get secret) i word = omega arith

-- a text that is not empty is read as JSON
full : (byte : ℕ) (text : List ℕ) → object_of (byte ∷ text) ≡ option_and_then object_only (json_of (byte ∷ text))
full byte text = rw (not_empty (length text)) refl
  where
    not_empty : (n : ℕ) → (suc n == 0) ≡ false
    not_empty n = grind (arith, nat_tests)

object_in : (step : Step) (i word : ℕ)
    → object_of (body_of step i word) ≡ option_and_then object_only (json_of (body_of step i word))
object_in step i word = full 123 (members_text false (members_of step i word))

body_asks : (step : Step) (i word : ℕ) → IsUtf8 (body_of step i word)
    → (depth (object (members_of step i word)) ≤ max_depth
    → read (body_of step i word) ≡ Some (object (members_of step i word)))
    → asks (target_of step) (body_of step i word) ≡ answers.Ok (request_by step i word)
body_asks step i word is reads =
    target_names step (body_of step i word)
    ∙ ap (λ json. asked_if (operation step) json) (object_in step i word)
    ∙ ap (λ json. asked_if (operation step) (option_and_then object_only json))
    (is_json (body_of step i word) (object (members_of step i word)) is (reads (shallow step i word)))
    ∙ members_ask step i word

-- a text of these members asks for what its step says
pub text_asks : (step : Step) (i word : ℕ) (made : Members) (text : List ℕ) → made ≡ members_of step i word
    → text ≡ compact_text (object made) → IsUtf8 text
    → (depth (object made) ≤ max_depth → read text ≡ Some (object made))
    → asks (target_of step) text ≡ answers.Ok (request_by step i word)
text_asks step i word made text are is utf8 reads =
    let body : text ≡ body_of step i word = is ∙ ap (λ m. compact_text (object m)) are in
    rw body (body_asks step i word (rw body at utf8) (λ d. rw (body, are) at (reads (rw are d))))

-- a message of such a field and such a body asks for the request
pub message_asks : (step : Step) (i word : ℕ) (fields : List NameValue) (body : List ℕ)
    → fields ≡ target_field (target_of step) ∷ [] → asks (target_of step) body ≡ answers.Ok (request_by step i word)
    → (target : List ℕ) × (field_of (codes "x-amz-target") fields ≡ Some target)
    × (asks target body ≡ answers.Ok (request_by step i word))
message_asks step i word fields body are is =
    (target_of step, ap (field_of (codes "x-amz-target")) are, is)
