-- What text is a policy, and the first fault of one that is none.
-- IAM User Guide: "Grammar of the IAM JSON policy language"; AWS Secrets Manager API Reference, PutResourcePolicy
-- (MalformedPolicyDocumentException).
use Rattle.std.specs.Prelude.{ℕ, ◌+◌, ◌-◌, ◌^◌, min, Bool, true, false, ◌&&◌, nat_le, if◌then◌else◌, List, [], ◌∷◌, length, codes, chars, Option, Some, None, unwrap_or, Result, Ok, Err}
use Rattle.std.specs.Str.{is_utf8}
use Rattle.serde_json.specs.Data as shapes
use Rattle.serde_json.specs.Data.{Data}
use Rattle.serde_json.specs.Find.{as_array, as_object}
use Rattle.serde_json.specs.Read.{read}
use Rattle.sm_base.specs.Texts.{has_at_most}
use Rattle.sm_base.specs.declared.limits.TheConstants.{POLICY_LIMIT}
use Rattle.sm_policy_text.specs.declared.document.PolicyRefused.{PolicyRefused}
use Rattle.sm_policy_text.specs.declared.document.PolicyRefused.TheVariants.{Malformed, Memory}
use Rattle.sm_policy_text.specs.declared.member.Member.{Member}
use Rattle.sm_policy_text.specs.declared.member.Member.TheVariants.{Action, Condition, Effect, Id, Principal, Resource, Sid, Statement as Statements, Version}
use Rattle.sm_policy_text.specs.declared.policy.Effect.TheVariants.{Deny}
use Rattle.sm_policy_text.specs.declared.policy.Policy.{Policy}
use Rattle.sm_policy_text.specs.declared.policy.Statement.{Statement}
use Rattle.sm_policy_text.specs.Kinds.{is_text, is_version, effect, principals, pattern, condition, one_or_more, wrapped, condition_with}
use Rattle.sm_policy_text.specs.Members.{Field, may, must, is_read, unknown_of, first, first_fault, given}

-- what a text is as JSON
abbrev pub json_of : List ℕ → Option Data
json_of text = if is_utf8 text then read text else None

-- the members of a statement, and their forms
abbrev pub statement_names : List Member
statement_names = Action ∷ Condition ∷ Effect ∷ Principal ∷ Resource ∷ Sid ∷ []

unfoldable pub statement_fields : List Field
statement_fields =
    may Sid is_text ∷ must Effect (is_read effect) ∷ must Principal (is_read principals)
    ∷ must Action (is_read (one_or_more pattern)) ∷ must Resource (is_read (one_or_more pattern))
    ∷ may Condition (is_read condition) ∷ []

-- the member of a statement that is at fault: the first unknown one, or else the first that is not in its form
abbrev pub statement_fault : Data → Option (List ℕ)
statement_fault json = first (unknown_of statement_names (as_object json)) (first_fault statement_fields json)

-- no statement is this one
abbrev pub statement_in : Data → Statement
statement_in json = record {
  effect = unwrap_or (given effect Effect json) Deny;
  principals = unwrap_or (given principals Principal json) (wrapped []);
  actions = unwrap_or (given (one_or_more pattern) Action json) [];
  resources = unwrap_or (given (one_or_more pattern) Resource json) [];
  condition = unwrap_or (given condition Condition json) (condition_with []);
}

-- a statement that is no object
abbrev pub object_fault : Option shapes.Members → Option (List ℕ) → Option (List ℕ)
object_fault None flaw = Some (codes "Statement")
object_fault (Some found) flaw = flaw

abbrev pub item_fault : Data → Option (List ℕ)
item_fault json = object_fault (as_object json) (statement_fault json)

-- the number of the statement at a place; past the last number it stays there
abbrev pub counted : ℕ → ℕ
counted place = min (place + 1) (2 ^ 32 - 1)

-- a fault: the statement's number, or 0 for the document, and the member
abbrev pub Flaw : Type 0
Flaw = ℕ × List ℕ

-- a statement before others, or the first fault
abbrev pub statement_before : ℕ → Option (List ℕ) → Statement → Result (List Statement) Flaw
    → Result (List Statement) Flaw
statement_before place (Some name) statement more = Err (counted place, name)
statement_before place None statement (Ok statements) = Ok (statement ∷ statements)
statement_before place None statement (Err flaw) = Err flaw

-- the statements behind so many others
abbrev pub statements_from : ℕ → shapes.Items → Result (List Statement) Flaw
statements_from place shapes.no_items = Ok []
statements_from place (shapes.item json items) =
    statement_before place (item_fault json) (statement_in json) (statements_from (place + 1) items)

-- the statements of a document: an object, or a list of at least one
abbrev pub listed : Option shapes.Items → Option shapes.Items
listed None = None
listed (Some shapes.no_items) = None
listed (Some (shapes.item json items)) = Some (shapes.item json items)

abbrev pub items_if : Data → Option shapes.Members → Option shapes.Items
items_if json None = listed (as_array json)
items_if json (Some found) = Some (shapes.item json shapes.no_items)

unfoldable pub items : Data → Option shapes.Items
items json = items_if json (as_object json)

-- the members of a document, and their forms
abbrev pub document_names : List Member
document_names = Id ∷ Statements ∷ Version ∷ []

unfoldable pub document_fields : List Field
document_fields = must Version is_version ∷ may Id is_text ∷ must Statements (is_read items) ∷ []

-- the member of a document that is at fault
abbrev pub document_fault : Data → Option (List ℕ)
document_fault json = first (unknown_of document_names (as_object json)) (first_fault document_fields json)

-- a policy of these statements
abbrev pub policy_with : Result (List Statement) Flaw → Result Policy Flaw
policy_with (Ok statements) = Ok (record { statements = statements })
policy_with (Err flaw) = Err flaw

abbrev pub policy_of_items : Option shapes.Items → Result Policy Flaw
policy_of_items None = Err (0, codes "Statement")
policy_of_items (Some found) = policy_with (statements_from 0 found)

-- the policy of an object: the document's members first, then statement by statement
abbrev pub policy_unless : Option (List ℕ) → Option shapes.Items → Result Policy Flaw
policy_unless (Some name) found = Err (0, name)
policy_unless None found = policy_of_items found

abbrev pub policy_in : Data → Result Policy Flaw
policy_in json = policy_unless (document_fault json) (given items Statements json)

abbrev pub policy_if_object : Data → Option shapes.Members → Result Policy Flaw
policy_if_object json None = Err (0, codes "policy")
policy_if_object json (Some found) = policy_in json

abbrev pub policy_if : Option Data → Result Policy Flaw
policy_if None = Err (0, codes "policy")
policy_if (Some json) = policy_if_object json (as_object json)

-- the policy that a text is, or its first fault
abbrev pub policy_of : List ℕ → Result Policy Flaw
policy_of text = policy_if (json_of text)

-- the answer, or none where memory is wanted
abbrev pub told : Result Policy PolicyRefused → Option (Result Policy Flaw)
told (Ok policy) = Some (Ok policy)
told (Err (Malformed number name)) = Some (Err (number, name))
told (Err Memory) = None

-- there is a policy
abbrev pub is_read_policy : Result Policy Flaw → Bool
is_read_policy (Ok policy) = true
is_read_policy (Err flaw) = false

-- the text is a policy
unfoldable pub is_policy : List ℕ → Bool
is_policy text = is_read_policy (policy_of text)

-- a policy's text has 1 to 20,480 characters
abbrev pub has_policy_length : List ℕ → Bool
has_policy_length text = nat_le 1 (length (chars text)) && has_at_most POLICY_LIMIT text

-- the text may be the resource policy of a secret
unfoldable pub is_resource_policy : List ℕ → Bool
is_resource_policy text = has_policy_length text && is_policy text
