-- What a policy is, said without the steps of a reader.
use Rattle.std.specs.Prelude.{◌≡◌, ◌↔◌, ℕ, IsTrue, List, Option, Some, Ok, Err}
use Rattle.serde_json.specs.Data as shapes
use Rattle.serde_json.specs.Data.{Data}
use Rattle.sm_policy_text.specs.declared.policy.Policy.{Policy}
use Rattle.sm_policy_text.specs.Documents.{json_of, policy_of, is_policy}
use Rattle.sm_policy_laws.specs.Policies.{statement_members, policy_members, IsPolicyText}
use Rattle.sm_policy_laws.specs.Faults.{IsLeastUnknown, IsFaultOfStatements, IsFirstFault}

-- a value is read as a thing exactly where it is that thing
abbrev pub IsReadAs : {A : Type 0} → (Data → Option A) → (Data → A → Type 0) → Type 0
IsReadAs {A} reads Is = (value : Data) (x : A) → (reads value ≡ Some x) ↔ Is value x

-- a name is that of a thing exactly where it is spelled so
abbrev pub IsNameOf : {A : Type 0} → (List ℕ → Option A) → (List ℕ → A → Type 0) → Type 0
IsNameOf {A} reads Is = (name : List ℕ) (x : A) → (reads name ≡ Some x) ↔ Is name x

-- a text is read as the policy that it is, and as no other
abbrev pub PoliciesAre : Type 0
PoliciesAre = (text : List ℕ) (policy : Policy) → (policy_of text ≡ Ok policy) ↔ IsPolicyText text policy

-- a text is one policy at most
abbrev pub PoliciesAreOne : Type 0
PoliciesAreOne = (text : List ℕ) (policy other : Policy) → IsPolicyText text policy → IsPolicyText text other
    → policy ≡ other

-- the test on a text is whether there is a policy that it is
abbrev pub PoliciesAreTested : Type 0
PoliciesAreTested = (text : List ℕ) → IsTrue (is_policy text) ↔ ((policy : Policy) × IsPolicyText text policy)

-- a text that is none is refused by its first fault, and by no other
abbrev pub FirstIsNamed : Type 0
FirstIsNamed = (text : List ℕ) (number : ℕ) (name : List ℕ)
    → (policy_of text ≡ Err (number, name)) ↔ IsFirstFault text number name

-- of the members of a document that are unknown the least is named
abbrev pub LeastIsNamed : Type 0
LeastIsNamed = (text : List ℕ) (members : shapes.Members) (name : List ℕ)
    → json_of text ≡ Some (shapes.object members) → IsLeastUnknown policy_members members name
    → policy_of text ≡ Err (0, name)

-- of the members of the first statement at fault that are unknown the least is named
abbrev pub LeastOfStatementIsNamed : Type 0
LeastOfStatementIsNamed = (text : List ℕ) (number : ℕ) (name other : List ℕ) (members : shapes.Members)
    → (fault : IsFaultOfStatements text number name) → fault.first.json ≡ shapes.object members
    → IsLeastUnknown statement_members members other → name ≡ other
