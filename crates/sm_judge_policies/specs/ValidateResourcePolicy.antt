-- ValidateResourcePolicy: its test on the rows and its reply. It works on a secret that is scheduled for deletion too,
-- and changes nothing.
-- AWS Secrets Manager API Reference, ValidateResourcePolicy, ValidationErrorsEntry (CheckName, ErrorMessage).
use Rattle.std.specs.Prelude.{ℕ, true, false, List, [], ◌∷◌, codes, Option, Some, None, Result, Ok, Err}
use Rattle.sm_base.specs.declared.moment.Moment.{Moment}
use Rattle.sm_base.specs.SecretId.{secret_id}
use Rattle.sm_model.specs.declared.reply.PolicyValidation.{PolicyValidation}
use Rattle.sm_model.specs.declared.reply.Reply.TheVariants as replies
use Rattle.sm_model.specs.declared.reply.ValidationError.{ValidationError}
use Rattle.sm_model.specs.declared.request.ValidateResourcePolicy.{ValidateResourcePolicy}
use Rattle.sm_model.specs.declared.rows.Rows.{Rows}
use Rattle.sm_model.specs.declared.why.Why.{Why}
use Rattle.sm_model.specs.declared.why.Why.TheVariants.{Malformed, Public}
use Rattle.sm_model.specs.Causes.{message_of}
use Rattle.sm_policy_text.specs.declared.policy.Policy.{Policy}
use Rattle.sm_policy.specs.Decisions.{public_number}
use Rattle.sm_policy_text.specs.Documents.{Flaw, policy_of}
use Rattle.sm_table.specs.Found.{found}
use Rattle.sm_judge_common.specs.declared.judged.Judged.{Judged}
use Rattle.sm_judge_common.specs.declared.judged.Judged.TheVariants.{Accept}
use Rattle.sm_judge_common.specs.Refusals.{unless_there}
use Rattle.sm_judge_common.specs.Secrets.{if_there}

-- ---- the reply

-- what a check found, with the message that a refusal for it would have
abbrev pub check_fault : List ℕ → Why → ValidationError
check_fault check why = record { check_name = check; error_message = message_of why }

-- the fault of a policy with a public statement
abbrev pub public_fault : Option ℕ → Option ValidationError
public_fault None = None
public_fault (Some statement) = Some (check_fault (codes "PublicAccess") (Public statement))

abbrev pub fault_read : Result Policy Flaw → Option ValidationError
fault_read (Err flaw) = Some (check_fault (codes "Syntax") (Malformed flaw.0 flaw.1))
fault_read (Ok policy) = public_fault (public_number policy)

-- what is wrong with a text as a policy: its first fault, or else its first public statement
abbrev pub fault_of : List ℕ → Option ValidationError
fault_of text = fault_read (policy_of text)

-- the policy passes where nothing is wrong with it
abbrev pub validation_of : Option ValidationError → PolicyValidation
validation_of None = record { policy_validation_passed = true; validation_errors = [] }
validation_of (Some fault) = record { policy_validation_passed = false; validation_errors = fault ∷ [] }

-- ---- the judgement

abbrev pub validated : List ℕ → Judged
validated text = Accept (replies.ValidateResourcePolicy (validation_of (fault_of text))) None

-- a secret that is named has to be there
abbrev pub validate_for : Rows → Moment → Option (List ℕ) → List ℕ → Judged
validate_for rows moment None text = validated text
validate_for rows moment (Some id) text = if_there (found rows moment (secret_id id)) (λ _. validated text)

abbrev pub validate_judgement : Rows → Moment → ValidateResourcePolicy → Judged
validate_judgement rows moment validate = validate_for rows moment validate.secret_id validate.resource_policy

-- ---- when it is refused

-- only where it names a secret that is not there
abbrev pub refusal_for : Rows → Moment → Option (List ℕ) → Option Why
refusal_for rows moment None = None
refusal_for rows moment (Some id) = unless_there (found rows moment (secret_id id))

abbrev pub validate_refusal : Rows → Moment → ValidateResourcePolicy → Option Why
validate_refusal rows moment validate = refusal_for rows moment validate.secret_id
