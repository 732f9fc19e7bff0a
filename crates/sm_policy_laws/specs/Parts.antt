-- What a JSON value has to be for a part of a policy.
-- IAM User Guide: "IAM JSON policy elements: Version", "Principal", "Action", "Resource", "Condition"; "Grammar of the
-- IAM JSON policy language"; Service Authorization Reference, "Condition keys for AWS Secrets Manager".
use Rattle.std.specs.Prelude.{◌≡◌, ◌≢◌, ℕ, ◌⊎◌, ◌++◌, IsTrue, List, [], ◌∷◌, codes}
use Rattle.std.specs.Char.{is_ascii_digit}
use Rattle.serde_json.specs.Data as shapes
use Rattle.serde_json.specs.Data.{Data}
use Rattle.sm_base.specs.PersonArn.{is_person_arn}
use Rattle.sm_base.specs.Spelling.{is_run}
use Rattle.sm_policy_text.specs.declared.policy.Block.{Block}
use Rattle.sm_policy_text.specs.declared.policy.Condition.{Condition}
use Rattle.sm_policy_text.specs.declared.policy.Effect.{Effect}
use Rattle.sm_policy_text.specs.declared.policy.Effect.TheVariants.{Allow, Deny}
use Rattle.sm_policy_text.specs.declared.policy.Key.{Key}
use Rattle.sm_policy_text.specs.declared.policy.Key.TheVariants as keys
use Rattle.sm_policy_text.specs.declared.policy.Operator.{Operator}
use Rattle.sm_policy_text.specs.declared.policy.Operator.TheVariants.{StringEquals, StringNotEquals, StringLike}
use Rattle.sm_policy_text.specs.declared.policy.Pattern.{Pattern}
use Rattle.sm_policy_text.specs.declared.policy.Principal.{Principal}
use Rattle.sm_policy_text.specs.declared.policy.Principals.{Principals}
use Rattle.sm_policy_text.specs.declared.policy.Test.{Test}
use Rattle.sm_policy_laws.specs.Words.{IsText, AreMembers, IsOneOrMore}

-- the version of the policy language
abbrev pub IsVersion : Data → Type 0
IsVersion value = IsText value (codes "2012-10-17")

abbrev pub IsEffect : Data → Effect → Type 0
IsEffect value Allow = IsText value (codes "Allow")
IsEffect value Deny = IsText value (codes "Deny")

-- everybody, an account's 12 digits, or an ARN of a person
abbrev pub NamesPrincipal : List ℕ → Type 0
NamesPrincipal text = (text ≡ codes "*") ⊎ (IsTrue (is_run is_ascii_digit 12 12 text) ⊎ IsTrue (is_person_arn text))

abbrev pub IsPrincipal : Data → Principal → Type 0
IsPrincipal value principal = IsText value principal.0 × NamesPrincipal principal.0

-- the text *, which is everybody, or an object with the one member AWS
abbrev pub IsPrincipals : Data → Principals → Type 0
IsPrincipals value principals =
    (IsText value (codes "*") × (principals ≡ record { 0 = record { 0 = codes "*" } ∷ [] }))
    ⊎ ((aws : Data) × (value ≡ shapes.object (shapes.member (codes "AWS") aws shapes.no_members))
    × IsOneOrMore IsPrincipal aws principals.0)

-- a pattern is a text that is not empty, and is kept as it was read
abbrev pub IsPattern : Data → Pattern → Type 0
IsPattern value pattern = IsText value pattern.0 × (pattern.0 ≢ [])

abbrev pub IsOperator : List ℕ → Operator → Type 0
IsOperator name StringEquals = name ≡ codes "StringEquals"
IsOperator name StringNotEquals = name ≡ codes "StringNotEquals"
IsOperator name StringLike = name ≡ codes "StringLike"

-- a tag's key is not empty, and is kept as it was read
abbrev pub IsKey : List ℕ → Key → Type 0
IsKey name keys.VersionStage = name ≡ codes "secretsmanager:VersionStage"
IsKey name keys.VersionId = name ≡ codes "secretsmanager:VersionId"
IsKey name keys.Name = name ≡ codes "secretsmanager:Name"
IsKey name keys.SecretId = name ≡ codes "secretsmanager:SecretId"
IsKey name (keys.ResourceTag tag) = (name ≡ codes "secretsmanager:ResourceTag/" ++ tag) × (tag ≢ [])

-- a key, and a text or a list of at least one
abbrev pub IsTest : List ℕ → Data → Test → Type 0
IsTest name value test = IsKey name test.key × IsOneOrMore IsText value test.values

-- an operator, and an object with a member for each test
abbrev pub IsBlock : List ℕ → Data → Block → Type 0
IsBlock name value block = IsOperator name block.operator
    × ((members : shapes.Members) × (value ≡ shapes.object members) × AreMembers IsTest members block.tests)

-- an object with a member for each operator
abbrev pub IsCondition : Data → Condition → Type 0
IsCondition value condition =
    (members : shapes.Members) × (value ≡ shapes.object members) × AreMembers IsBlock members condition.0
