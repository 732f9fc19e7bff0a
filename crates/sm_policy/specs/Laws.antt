-- What follows from the definitions: patterns are matched as the relation says, and no Allow wins over a Deny.
-- IAM User Guide, "Policy evaluation logic": an explicit deny in any policy overrides any allows.
use Rattle.std.specs.Prelude.{◌≡◌, ◌↔◌, ℕ, Bool, true, false, List, [], ◌∷◌}
use Rattle.std.specs.List.{list_any}
use Rattle.sm_policy_text.specs.declared.policy.Policy.{Policy}
use Rattle.sm_policy.specs.declared.question.Decision.{Decision}
use Rattle.sm_policy.specs.declared.question.Decision.TheVariants.{Allow, Deny, Silent}
use Rattle.sm_policy.specs.Decisions.{PlainQuestion, denies, allows, decision, admitted}
use Rattle.sm_policy.specs.Patterns.{Wild, wild}

-- the test is the relation
abbrev pub MatchesAsWild : Type 0
MatchesAsWild = (pattern text : List ℕ) → (wild pattern text ≡ true) ↔ Wild pattern text

-- a lone `*` matches every text, the empty one too
abbrev pub StarMatchesAll : Type 0
StarMatchesAll = (text : List ℕ) → wild (42 ∷ []) text ≡ true

abbrev pub is_denial : Decision → Bool
is_denial (Allow n) = false
is_denial (Deny n) = true
is_denial Silent = false

abbrev pub is_allowance : Decision → Bool
is_allowance (Allow n) = true
is_allowance (Deny n) = false
is_allowance Silent = false

-- what a decision comes to for a person, who may be full
abbrev pub may_go : Decision → Bool → Bool
may_go (Allow n) full = true
may_go (Deny n) full = false
may_go Silent full = full

-- a denial is answered exactly where some statement that denies matches
abbrev pub DenyWins : Type 0
DenyWins = (policy : Policy) (question : PlainQuestion)
    → is_denial (decision policy question) ≡ list_any (denies question) policy.statements

-- an allowance is answered only where no statement denies, and some allows
abbrev pub AllowIsUndenied : Type 0
AllowIsUndenied = (policy : Policy) (question : PlainQuestion) → is_allowance (decision policy question) ≡ true
    → (list_any (denies question) policy.statements ≡ false) × (list_any (allows question) policy.statements ≡ true)

-- a person may do what the decision comes to
abbrev pub DecisionAdmits : Type 0
DecisionAdmits = (policy : Policy) (question : PlainQuestion)
    → admitted policy question ≡ may_go (decision policy question) question.person.full
