-- What a policy says to a question.
-- IAM User Guide: "IAM JSON policy elements reference" (Effect, Principal, Action, Resource, Condition), "Policy
-- evaluation logic" (an explicit deny overrides an allow); AWS Secrets Manager User Guide: "Resource-based policies";
-- Service Authorization Reference, "Condition keys for AWS Secrets Manager".
use Rattle.std.specs.Prelude.{ℕ, ◌+◌, Bool, true, false, not, ◌&&◌, ◌||◌, if◌then◌else◌, List, [], ◌∷◌, ◌++◌, take, drop, codes, Option, Some, None, option_map}
use Rattle.std.specs.List.{list_any, list_all}
use Rattle.sm_base.specs.Texts.{same_text}
use Rattle.sm_model.specs.declared.person.Person.{Person}
use Rattle.sm_model.specs.declared.rows.SecretRow.{SecretRow}
use Rattle.sm_model.specs.declared.value.Tag.{Tag}
use Rattle.sm_policy_text.specs.declared.policy.Block.{Block}
use Rattle.sm_policy_text.specs.declared.policy.Condition.{Condition}
use Rattle.sm_policy_text.specs.declared.policy.Effect.{Effect}
use Rattle.sm_policy_text.specs.declared.policy.Effect.TheVariants.{Allow, Deny}
use Rattle.sm_policy_text.specs.declared.policy.Key.{Key}
use Rattle.sm_policy_text.specs.declared.policy.Key.TheVariants as keys
use Rattle.sm_policy_text.specs.declared.policy.Operator.{Operator}
use Rattle.sm_policy_text.specs.declared.policy.Operator.TheVariants.{StringEquals, StringNotEquals, StringLike}
use Rattle.sm_policy_text.specs.declared.policy.Pattern.{Pattern}
use Rattle.sm_policy_text.specs.declared.policy.Policy.{Policy}
use Rattle.sm_policy_text.specs.declared.policy.Principal.{Principal}
use Rattle.sm_policy_text.specs.declared.policy.Statement.{Statement}
use Rattle.sm_policy_text.specs.declared.policy.Test.{Test}
use Rattle.sm_policy_text.specs.Documents.{counted}
use Rattle.sm_policy.specs.declared.pattern.Case.TheVariants.{Exact, Folded}
use Rattle.sm_policy.specs.declared.question.Decision.{Decision}
use Rattle.sm_policy.specs.declared.question.Decision.TheVariants as decisions
use Rattle.sm_policy.specs.declared.question.Question.{Question}
use Rattle.sm_policy.specs.Patterns.{letters, wild}

-- what is asked, in plain values: may this person do this with this secret?
pub record PlainQuestion : Type 0 where
  pub person : Person
  pub action : List ℕ
  pub row : SecretRow
  pub secret_id : List ℕ
  pub version_id : Option (List ℕ)
  pub version_stage : Option (List ℕ)

abbrev pub plain_question : Question → PlainQuestion
plain_question question = record {
  person = question.person.now;
  action = question.action.now;
  row = question.row.now;
  secret_id = question.secret_id.now;
  version_id = option_map (λ t. t.now) question.version_id;
  version_stage = option_map (λ t. t.now) question.version_stage;
}

-- the account in the ARN of a person, arn:aws:iam::<12 digits>:<name>
abbrev pub account_in : List ℕ → List ℕ
account_in arn = take 12 (drop 13 arn)

-- the ARN that stands for a whole account
abbrev pub root_of : List ℕ → List ℕ
root_of account = codes "arn:aws:iam::" ++ (account ++ codes ":root")

-- the principal is everybody, the person's account by its digits or as its root, or the person
abbrev pub is_for : List ℕ → Principal → Bool
is_for arn principal =
    same_text principal.0 (codes "*") || same_text principal.0 (account_in arn)
    || same_text principal.0 (root_of (account_in arn)) || same_text principal.0 arn

-- the pattern matches the text
abbrev pub is_like : List ℕ → Pattern → Bool
is_like text pattern = wild (letters Exact pattern.0) (letters Exact text)

-- the pattern matches the action, both in ASCII lower case
abbrev pub is_action : List ℕ → Pattern → Bool
is_action action pattern = wild (letters Folded pattern.0) (letters Folded action)

-- the value of the tag with the key
abbrev pub tag_value : List Tag → List ℕ → Option (List ℕ)
tag_value [] key = None
tag_value (tag ∷ tags) key = if same_text tag.key key then Some tag.value else tag_value tags key

-- the value of a key in a question
abbrev pub value_of : Key → PlainQuestion → Option (List ℕ)
value_of keys.VersionStage question = question.version_stage
value_of keys.VersionId question = question.version_id
value_of keys.Name question = Some question.row.name
value_of keys.SecretId question = Some question.secret_id
value_of (keys.ResourceTag key) question = tag_value question.row.tags key

-- a value that is there equals one of the texts
abbrev pub equals_one : List (List ℕ) → List ℕ → Bool
equals_one texts value = list_any (λ t. same_text t value) texts

-- and is matched by one of them
abbrev pub like_one : List (List ℕ) → List ℕ → Bool
like_one texts value = list_any (λ t. wild (letters Exact t) (letters Exact value)) texts

-- the operator holds: StringNotEquals also where there is no value
abbrev pub operator_holds : Operator → List (List ℕ) → Option (List ℕ) → Bool
operator_holds StringEquals texts None = false
operator_holds StringEquals texts (Some value) = equals_one texts value
operator_holds StringNotEquals texts None = true
operator_holds StringNotEquals texts (Some value) = not (equals_one texts value)
operator_holds StringLike texts None = false
operator_holds StringLike texts (Some value) = like_one texts value

-- a key's test
abbrev pub test_holds : PlainQuestion → Operator → Test → Bool
test_holds question operator test = operator_holds operator test.values (value_of test.key question)

-- every key of every operator holds
abbrev pub block_holds : PlainQuestion → Block → Bool
block_holds question block = list_all (test_holds question block.operator) block.tests

abbrev pub condition_holds : PlainQuestion → Condition → Bool
condition_holds question condition = list_all (block_holds question) condition.0

-- a statement matches by its four parts
unfoldable pub matches : PlainQuestion → Statement → Bool
matches question statement =
    list_any (is_for question.person.arn) statement.principals.0
    && list_any (is_action question.action) statement.actions
    && list_any (is_like question.row.arn) statement.resources
    && condition_holds question statement.condition

abbrev pub is_deny : Effect → Bool
is_deny Allow = false
is_deny Deny = true

-- a statement that denies, or that allows, and matches
abbrev pub denies : PlainQuestion → Statement → Bool
denies question statement = is_deny statement.effect && matches question statement

abbrev pub allows : PlainQuestion → Statement → Bool
allows question statement = not (is_deny statement.effect) && matches question statement

-- the number of the first statement that passes, where those before it are so many
abbrev pub first_number : (Statement → Bool) → ℕ → List Statement → Option ℕ
first_number test place [] = None
first_number test place (s ∷ ss) = if test s then Some (counted place) else first_number test (place + 1) ss

-- a statement that denies wins over each that allows
abbrev pub decided : Option ℕ → Option ℕ → Decision
decided (Some n) allowed = decisions.Deny n
decided None (Some n) = decisions.Allow n
decided None None = decisions.Silent

abbrev pub decision : Policy → PlainQuestion → Decision
decision policy question = decided (first_number (denies question) 0 policy.statements)
    (first_number (allows question) 0 policy.statements)

-- the person may do it: no statement denies it, and the person is full or some statement allows it
abbrev pub admitted : Policy → PlainQuestion → Bool
admitted policy question = not (list_any (denies question) policy.statements)
    && (question.person.full || list_any (allows question) policy.statements)

-- a statement that allows everybody something, whatever is asked
abbrev pub is_everybody : Principal → Bool
is_everybody principal = same_text principal.0 (codes "*")

abbrev pub no_blocks : List Block → Bool
no_blocks [] = true
no_blocks (b ∷ bs) = false

unfoldable pub is_open : Statement → Bool
is_open statement = not (is_deny statement.effect) && list_any is_everybody statement.principals.0
    && no_blocks statement.condition.0

-- the first statement that is public
abbrev pub public_number : Policy → Option ℕ
public_number policy = first_number is_open 0 policy.statements
