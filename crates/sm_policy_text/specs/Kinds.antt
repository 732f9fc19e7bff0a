-- What a JSON value is as a part of a policy.
-- IAM User Guide: "IAM JSON policy elements: Version", "Principal", "Action", "Resource", "Condition"; "Grammar of the
-- IAM JSON policy language"; Service Authorization Reference, "Condition keys for AWS Secrets Manager".
use Rattle.std.specs.Prelude.{ℕ, Bool, true, false, ◌&&◌, ◌||◌, nat_le, nat_eq, if◌then◌else◌, List, [], ◌∷◌, length, drop, codes, Option, Some, None, option_map, option_and_then, is_some}
use Rattle.std.specs.List.{starts_with}
use Rattle.std.specs.Char.{is_ascii_digit}
use Rattle.serde_json.specs.Data as shapes
use Rattle.serde_json.specs.Data.{Data}
use Rattle.serde_json.specs.Find.{get, as_str, as_array, as_object}
use Rattle.sm_base.specs.PersonArn.{is_person_arn}
use Rattle.sm_base.specs.Spelling.{is_run}
use Rattle.sm_base.specs.Texts.{same_text}
use Rattle.sm_policy_text.specs.declared.policy.Block.{Block}
use Rattle.sm_policy_text.specs.declared.policy.Condition.{Condition}
use Rattle.sm_policy_text.specs.declared.policy.Effect.{Effect}
use Rattle.sm_policy_text.specs.declared.policy.Effect.TheVariants.{Allow, Deny}
use Rattle.sm_policy_text.specs.declared.policy.Key.{Key}
use Rattle.sm_policy_text.specs.declared.policy.Key.TheVariants as keys
use Rattle.sm_policy_text.specs.declared.policy.Operator.{Operator}
use Rattle.sm_policy_text.specs.declared.policy.Operator.TheVariants.{StringEquals, StringNotEquals, StringLike}
use Rattle.sm_policy_text.specs.declared.policy.Pattern.{Pattern}
use Rattle.sm_policy_text.specs.declared.policy.Principal.{Principal}
use Rattle.sm_policy_text.specs.declared.policy.Principals.{Principals}
use Rattle.sm_policy_text.specs.declared.policy.Test.{Test}

-- a text
abbrev pub is_text : Data → Bool
is_text value = is_some (as_str value)

-- the version of the policy language
unfoldable pub is_version_text : List ℕ → Bool
is_version_text text = same_text text (codes "2012-10-17")

abbrev pub is_version_if : Option (List ℕ) → Bool
is_version_if None = false
is_version_if (Some text) = is_version_text text

unfoldable pub is_version : Data → Bool
is_version value = is_version_if (as_str value)

-- an effect by its name
unfoldable pub effect_named : List ℕ → Option Effect
effect_named text = if same_text text (codes "Allow") then Some Allow
    else if same_text text (codes "Deny") then Some Deny else None

unfoldable pub effect : Data → Option Effect
effect value = option_and_then effect_named (as_str value)

-- everybody, an account's 12 digits, or an ARN of a person
unfoldable pub is_principal : List ℕ → Bool
is_principal text = same_text text (codes "*") || is_run is_ascii_digit 12 12 text || is_person_arn text

-- a text that passes
abbrev pub text_if : (List ℕ → Bool) → List ℕ → Option (List ℕ)
text_if test text = if test text then Some text else None

abbrev pub passing : (List ℕ → Bool) → Data → Option (List ℕ)
passing test value = option_and_then (text_if test) (as_str value)

-- a text
unfoldable pub text : Data → Option (List ℕ)
text value = as_str value

unfoldable pub principal : Data → Option Principal
principal value = option_map (λ t. record { 0 = t }) (passing is_principal value)

-- a pattern is a text that is not empty
abbrev pub is_pattern : List ℕ → Bool
is_pattern text = nat_le 1 (length text)

unfoldable pub pattern : Data → Option Pattern
pattern value = option_map (λ t. record { 0 = t }) (passing is_pattern value)

-- an item before others, where all are there
abbrev pub before : {A : Type 0} → Option A → Option (List A) → Option (List A)
before None more = None
before (Some x) None = None
before (Some x) (Some xs) = Some (x ∷ xs)

-- each item of a list
abbrev pub all_items : {A : Type 0} → (Data → Option A) → shapes.Items → Option (List A)
all_items reads shapes.no_items = Some []
all_items reads (shapes.item value items) = before (reads value) (all_items reads items)

abbrev pub some_items : {A : Type 0} → (Data → Option A) → shapes.Items → Option (List A)
some_items reads shapes.no_items = None
some_items reads (shapes.item value items) = all_items reads (shapes.item value items)

-- one thing
abbrev pub alone : {A : Type 0} → A → List A
alone x = x ∷ []

-- a thing, or a list of at least one
abbrev pub one_or_items : {A : Type 0} → (Data → Option A) → Data → Option shapes.Items → Option (List A)
one_or_items reads value None = option_map alone (reads value)
one_or_items reads value (Some items) = some_items reads items

unfoldable pub one_or_more : {A : Type 0} → (Data → Option A) → Data → Option (List A)
one_or_more reads value = one_or_items reads value (as_array value)

-- each member of an object, by its name and its value
abbrev pub all_members : {A : Type 0} → (List ℕ → Data → Option A) → shapes.Members → Option (List A)
all_members reads shapes.no_members = Some []
all_members reads (shapes.member name value found) = before (reads name value) (all_members reads found)

abbrev pub members_if : {A : Type 0} → (List ℕ → Data → Option A) → Option shapes.Members → Option (List A)
members_if reads None = None
members_if reads (Some found) = all_members reads found

-- an object has one member
abbrev pub is_single : shapes.Members → Bool
is_single shapes.no_members = false
is_single (shapes.member name value shapes.no_members) = true
is_single (shapes.member name value (shapes.member other more found)) = false

-- whom a statement is about: the text *, or an object with the one member AWS
abbrev pub aws_of : Data → Option shapes.Members → Option Data
aws_of value None = None
aws_of value (Some found) = if is_single found then get (codes "AWS") value else None

abbrev pub wrapped : List Principal → Principals
wrapped list = record { 0 = list }

abbrev pub everybody : Principals
everybody = wrapped (alone (record { 0 = codes "*" }))

abbrev pub principals_of : Data → Option (List ℕ) → Option Principals
principals_of value (Some text) = if same_text text (codes "*") then Some everybody else None
principals_of value None = option_map wrapped (option_and_then (one_or_more principal) (aws_of value (as_object value)))

unfoldable pub principals : Data → Option Principals
principals value = principals_of value (as_str value)

-- an operator by its name
unfoldable pub operator_named : List ℕ → Option Operator
operator_named name = if same_text name (codes "StringEquals") then Some StringEquals
    else if same_text name (codes "StringNotEquals") then Some StringNotEquals
    else if same_text name (codes "StringLike") then Some StringLike
    else None

-- a key by its name; behind secretsmanager:ResourceTag/ stands a tag's key that is not empty
abbrev pub tag_key_named : List ℕ → Option Key
tag_key_named name = if starts_with nat_eq name (codes "secretsmanager:ResourceTag/") && nat_le 28 (length name)
    then Some (keys.ResourceTag (drop 27 name)) else None

unfoldable pub key_named : List ℕ → Option Key
key_named name = if same_text name (codes "secretsmanager:VersionStage") then Some keys.VersionStage
    else if same_text name (codes "secretsmanager:VersionId") then Some keys.VersionId
    else if same_text name (codes "secretsmanager:Name") then Some keys.Name
    else if same_text name (codes "secretsmanager:SecretId") then Some keys.SecretId
    else tag_key_named name

-- a key and its values
abbrev pub test_of : Option Key → Option (List (List ℕ)) → Option Test
test_of None values = None
test_of (Some key) None = None
test_of (Some key) (Some values) = Some (record { key = key; values = values })

unfoldable pub key_test : List ℕ → Data → Option Test
key_test name value = test_of (key_named name) (one_or_more text value)

-- an operator and its tests
abbrev pub block_of : Option Operator → Option (List Test) → Option Block
block_of None tests = None
block_of (Some operator) None = None
block_of (Some operator) (Some tests) = Some (record { operator = operator; tests = tests })

unfoldable pub block : List ℕ → Data → Option Block
block name value = block_of (operator_named name) (members_if key_test (as_object value))

abbrev pub condition_with : List Block → Condition
condition_with blocks = record { 0 = blocks }

-- a condition
unfoldable pub condition : Data → Option Condition
condition value = option_map condition_with (members_if block (as_object value))
