-- What is wrong with a text that is no policy, and which fault comes first: of the document, and then of each
-- statement in turn; of an object first the least unknown member, and then the known members in a stated order.
use Rattle.std.specs.Prelude.{◌≡◌, ℕ, ◌+◌, ◌-◌, ◌^◌, ◌<◌, min, ◌⊎◌, List, [], ◌∷◌, Some, codes, ⊤}
use Rattle.std.specs.Cmp.Lexicographic.{slice_cmp}
use Rattle.std.specs.Ordering.{nat_cmp}
use Rattle.std.specs.declared.cmp.Ordering.TheVariants.{Less}
use Rattle.serde_json.specs.Data as shapes
use Rattle.serde_json.specs.Data.{Data}
use Rattle.serde_json.specs.Find.{get_item}
use Rattle.sm_policy_text.specs.declared.policy.Condition.{Condition}
use Rattle.sm_policy_text.specs.declared.policy.Statement.{Statement}
use Rattle.sm_policy_text.specs.Documents.{json_of}
use Rattle.sm_policy_laws.specs.Words.{IsObject, HasName, IsAmong, HasOnly, IsObjectOf, Has, IsFullList, IsOneOrMore}
use Rattle.sm_policy_laws.specs.Parts.{IsEffect, IsPrincipals, IsPattern}
use Rattle.sm_policy_laws.specs.Policies.{MayBeText, HasCondition, statement_members, policy_members, HasVersion, IsStatement}

-- a name is before another in byte order
abbrev pub Before : List ℕ → List ℕ → Type 0
Before a b = slice_cmp nat_cmp a b ≡ Less

-- a member has none of these names, and each other such member has a greater one
pub record IsLeastUnknown (names : List (List ℕ)) (members : shapes.Members) (name : List ℕ) : Type 0 where
  pub there : HasName members name
  pub unknown : IsAmong names name → ⊥
  pub least : (other : List ℕ) → HasName members other → (IsAmong names other → ⊥)
      → (name ≡ other) ⊎ Before name other

-- a member, and when it is in order
pub record Rule : Type 1 where
  pub name : List ℕ
  pub holds : Data → Type 0

-- a member that has to be there, as such a thing
abbrev pub needs : {A : Type 0} → (Data → A → Type 0) → List ℕ → Rule
needs {A} Is name = record { name = name; holds = λ json. (x : A) × Has Is name json x }

-- a member that is a text, if it is there
abbrev pub may_be_text : List ℕ → Rule
may_be_text name = record { name = name; holds = MayBeText name }

-- the first of the members that is not in order
abbrev pub IsFirstBroken : List Rule → Data → List ℕ → Type 0
IsFirstBroken [] json name = ⊥
IsFirstBroken (rule ∷ rules) json name = ((name ≡ rule.name) × (rule.holds json → ⊥))
    ⊎ (rule.holds json × IsFirstBroken rules json name)

-- all members are in order
abbrev pub AllHold : List Rule → Data → Type 0
AllHold [] json = ⊤
AllHold (rule ∷ rules) json = rule.holds json × AllHold rules json

-- the fault of an object: the least unknown member; or, where there is none, the first that is not in order
abbrev pub IsFaultOf : List (List ℕ) → List Rule → Data → List ℕ → Type 0
IsFaultOf names rules json name = (members : shapes.Members) × (json ≡ shapes.object members)
    × (IsLeastUnknown names members name ⊎ (HasOnly names members × IsFirstBroken rules json name))

-- the members of a statement in the order of their faults
abbrev pub statement_rules : List Rule
statement_rules =
    may_be_text (codes "Sid") ∷ needs IsEffect (codes "Effect") ∷ needs IsPrincipals (codes "Principal")
    ∷ needs (IsOneOrMore IsPattern) (codes "Action") ∷ needs (IsOneOrMore IsPattern) (codes "Resource")
    ∷ (record { name = codes "Condition"; holds = λ json. (x : Condition) × HasCondition json x }) ∷ []

-- the fault of a statement; one that is no object is a fault of the member Statement
abbrev pub IsFaultOfStatement : Data → List ℕ → Type 0
IsFaultOfStatement json name = ((IsObject json → ⊥) × (name ≡ codes "Statement"))
    ⊎ IsFaultOf statement_members statement_rules json name

-- the first statement at fault, by its number and the member: all before it are statements. The numbers count from 1,
-- and all behind the last of them are told by that one
pub record IsFirstOf (items : shapes.Items) (number : ℕ) (name : List ℕ) : Type 0 where
  pub place : ℕ
  pub json : Data
  pub there : get_item place items ≡ Some json
  pub wrong : IsFaultOfStatement json name
  pub earlier : (before : ℕ) (other : Data) → before < place → get_item before items ≡ Some other
      → (statement : Statement) × IsStatement other statement
  pub numbered : number ≡ min (place + 1) (2 ^ 32 - 1)

-- the statements of a document: one object, or a list of at least one
abbrev pub AreStatements : Data → shapes.Items → Type 0
AreStatements value items = (IsObject value × (items ≡ shapes.item value shapes.no_items)) ⊎ IsFullList value items

-- the members of a document in the order of their faults
abbrev pub policy_rules : List Rule
policy_rules = (record { name = codes "Version"; holds = HasVersion }) ∷ may_be_text (codes "Id")
    ∷ needs AreStatements (codes "Statement") ∷ []

-- a text is no JSON object
abbrev pub IsNoObjectText : List ℕ → Type 0
IsNoObjectText text = (json : Data) → json_of text ≡ Some json → IsObject json → ⊥

-- the fault of a text that is an object, in its document
abbrev pub IsFaultOfDocument : List ℕ → List ℕ → Type 0
IsFaultOfDocument text name =
    (json : Data) × (json_of text ≡ Some json) × IsFaultOf policy_members policy_rules json name

-- the fault of a text whose document is in order, in its statements
pub record IsFaultOfStatements (text : List ℕ) (number : ℕ) (name : List ℕ) : Type 0 where
  pub json : Data
  pub reads : json_of text ≡ Some json
  pub object : IsObjectOf policy_members json
  pub order : AllHold policy_rules json
  pub items : shapes.Items
  pub statements : Has AreStatements (codes "Statement") json items
  pub first : IsFirstOf items number name

-- the first fault of a text: 0 and policy where it is no object, 0 and a member for its document, and else the number
-- and a member of a statement
abbrev pub IsFirstFault : List ℕ → ℕ → List ℕ → Type 0
IsFirstFault text number name = (IsNoObjectText text × (number ≡ 0) × (name ≡ codes "policy"))
    ⊎ (((number ≡ 0) × IsFaultOfDocument text name) ⊎ IsFaultOfStatements text number name)
