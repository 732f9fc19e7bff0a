-- What follows of admissions: on sound secrets a person is admitted exactly where no statement of the secret's policy
-- denies, and the person is full or some statement allows; and a denial names the first statement that denies.
-- IAM User Guide: "Policy evaluation logic".
use Rattle.std.specs.Prelude.{◌≡◌, ℕ, List, [], Option, Some, None, is_none, Result, Ok, Err}
use Rattle.sm_base.specs.declared.moment.Moment.{Moment}
use Rattle.sm_model.specs.declared.person.Person.{Person}
use Rattle.sm_model.specs.declared.rows.Rows.{Rows}
use Rattle.sm_model.specs.declared.rows.SecretRow.{SecretRow}
use Rattle.sm_policy_text.specs.declared.policy.Policy.{Policy}
use Rattle.sm_policy.specs.Decisions.{PlainQuestion, denies, first_number, admitted}
use Rattle.sm_policy_text.specs.Documents.{Flaw, policy_of}
use Rattle.sm_table.specs.Sound.{Sound}
use Rattle.sm_access.specs.Admission.{by_policy, question_of, secret_named, admission_of_access_request}
use Rattle.sm_access.specs.AccessRequests.{PlainAccessRequest}

-- the policy that a secret keeps; without one it has no statements
abbrev pub no_statements : Policy
no_statements = record { statements = [] }

abbrev pub policy_read : Result Policy Flaw → Policy
policy_read (Ok policy) = policy
policy_read (Err flaw) = no_statements

abbrev pub kept_policy : Option (List ℕ) → Policy
kept_policy None = no_statements
kept_policy (Some text) = policy_read (policy_of text)

-- no statement denies it, and the person is full or some statement allows it
abbrev pub AdmitsByPolicy : Type 0
AdmitsByPolicy =
    (rows : Rows) (person : Person) (moment : Moment) (access_request : PlainAccessRequest) (row : SecretRow)
    → Sound rows → secret_named rows moment access_request.secret_id ≡ Some row
    → is_none (admission_of_access_request rows person moment access_request)
    ≡ admitted (kept_policy row.policy) (question_of person row access_request)

-- the number of the first statement that denies it, or none where none does
abbrev pub DenialNamesFirst : Type 0
DenialNamesFirst =
    (policy : Option (List ℕ)) (question : PlainQuestion) (statement : Option ℕ)
    → by_policy policy question ≡ Some statement
    → statement ≡ first_number (denies question) 0 (kept_policy policy).statements
