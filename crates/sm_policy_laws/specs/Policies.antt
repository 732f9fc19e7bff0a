-- What JSON value is a policy, member by member.
-- IAM User Guide: "Grammar of the IAM JSON policy language".
use Rattle.std.specs.Prelude.{◌≡◌, ℕ, ◌⊎◌, List, [], ◌∷◌, Some, codes}
use Rattle.serde_json.specs.Data.{Data}
use Rattle.serde_json.specs.Find.{get}
use Rattle.sm_policy_text.specs.declared.policy.Condition.{Condition}
use Rattle.sm_policy_text.specs.declared.policy.Policy.{Policy}
use Rattle.sm_policy_text.specs.declared.policy.Statement.{Statement}
use Rattle.sm_policy_text.specs.Documents.{json_of}
use Rattle.sm_policy_laws.specs.Words.{IsText, IsObjectOf, Lacks, Has, IsOneOrMore}
use Rattle.sm_policy_laws.specs.Parts.{IsVersion, IsEffect, IsPrincipals, IsPattern, IsCondition}

-- a member is a text, or is not there
abbrev pub MayBeText : List ℕ → Data → Type 0
MayBeText name json = Lacks name json ⊎ ((text : List ℕ) × Has IsText name json text)

-- a statement without a condition is kept with one that tests nothing
abbrev pub HasCondition : Data → Condition → Type 0
HasCondition json condition = (Lacks (codes "Condition") json × (condition ≡ record { 0 = [] }))
    ⊎ Has IsCondition (codes "Condition") json condition

-- the members that a statement may have
abbrev pub statement_members : List (List ℕ)
statement_members = codes "Action" ∷ codes "Condition" ∷ codes "Effect" ∷ codes "Principal" ∷ codes "Resource"
    ∷ codes "Sid" ∷ []

-- a value is this statement
pub record IsStatement (json : Data) (statement : Statement) : Type 0 where
  pub object : IsObjectOf statement_members json
  pub sid : MayBeText (codes "Sid") json
  pub effect : Has IsEffect (codes "Effect") json statement.effect
  pub principals : Has IsPrincipals (codes "Principal") json statement.principals
  pub actions : Has (IsOneOrMore IsPattern) (codes "Action") json statement.actions
  pub resources : Has (IsOneOrMore IsPattern) (codes "Resource") json statement.resources
  pub condition : HasCondition json statement.condition

-- the members that a policy may have
abbrev pub policy_members : List (List ℕ)
policy_members = codes "Id" ∷ codes "Statement" ∷ codes "Version" ∷ []

-- a member is the version
abbrev pub HasVersion : Data → Type 0
HasVersion json = (value : Data) × (get (codes "Version") json ≡ Some value) × IsVersion value

-- a value is this policy: a statement, or a list of at least one
pub record IsPolicy (json : Data) (policy : Policy) : Type 0 where
  pub object : IsObjectOf policy_members json
  pub version : HasVersion json
  pub id : MayBeText (codes "Id") json
  pub statements : Has (IsOneOrMore IsStatement) (codes "Statement") json policy.statements

-- a text is JSON that is this policy
abbrev pub IsPolicyText : List ℕ → Policy → Type 0
IsPolicyText text policy = (json : Data) × (json_of text ≡ Some json) × IsPolicy json policy
