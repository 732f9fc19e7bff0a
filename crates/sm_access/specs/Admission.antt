-- Whether a person may make a request.
-- AWS Secrets Manager User Guide: "Resource-based policies"; IAM User Guide: "Policy evaluation logic" (an explicit
-- deny overrides an allow, and what is not allowed is denied). That a person who is full needs no allowance is this
-- server's own.
use Rattle.std.specs.Prelude.{ℕ, if◌then◌else◌, List, Option, Some, None, Result, Ok, Err}
use Rattle.sm_base.specs.declared.moment.Moment.{Moment}
use Rattle.sm_base.specs.SecretId.{secret_id}
use Rattle.sm_base.specs.Spelling.{is_secret_id}
use Rattle.sm_model.specs.declared.person.Person.{Person}
use Rattle.sm_model.specs.declared.request.Request.{Request}
use Rattle.sm_model.specs.declared.rows.Rows.{Rows}
use Rattle.sm_model.specs.declared.rows.SecretRow.{SecretRow}
use Rattle.sm_policy_text.specs.declared.policy.Policy.{Policy}
use Rattle.sm_policy.specs.declared.question.Decision.{Decision}
use Rattle.sm_policy.specs.declared.question.Decision.TheVariants.{Allow, Deny, Silent}
use Rattle.sm_policy.specs.Decisions.{PlainQuestion, decision}
use Rattle.sm_policy_text.specs.Documents.{Flaw, policy_of}
use Rattle.sm_table.specs.Found.{found}
use Rattle.sm_access.specs.declared.admission.Admitted.{Admitted}
use Rattle.sm_access.specs.declared.admission.Admitted.TheVariants.{Ok as Admits, Denied, Memory}
use Rattle.sm_access.specs.AccessRequests.{PlainAccessRequest, access_request_of, asks_nothing}

-- An admission is nothing where the request is admitted. Where it is denied it is the number of the statement that
-- denies it, counted from 1, or that none allows it.

-- where no statement says anything a person who is full is admitted, and a guest is not
abbrev pub by_person : Person → Option (Option ℕ)
by_person person = if person.full then None else Some None

-- a statement that denies wins, and then one that allows
abbrev pub by_decision : Decision → Person → Option (Option ℕ)
by_decision (Allow n) person = None
by_decision (Deny n) person = Some (Some n)
by_decision Silent person = by_person person

-- what the text of a policy says; one that is no policy, which no sound secret keeps, allows nobody anything
abbrev pub by_reading : Result Policy Flaw → PlainQuestion → Option (Option ℕ)
by_reading (Ok policy) question = by_decision (decision policy question) question.person
by_reading (Err flaw) question = Some None

-- what the policy of a secret says; a secret without one has no statements
abbrev pub by_policy : Option (List ℕ) → PlainQuestion → Option (Option ℕ)
by_policy None question = by_person question.person
by_policy (Some text) question = by_reading (policy_of text) question

-- what an access request asks the policy of the secret of this row
abbrev pub question_of : Person → SecretRow → PlainAccessRequest → PlainQuestion
question_of person row access_request = record {
  person = person;
  action = access_request.action;
  row = row;
  secret_id = access_request.secret_id;
  version_id = access_request.version_id;
  version_stage = access_request.version_stage;
}

-- a secret that is not there has no statements
abbrev pub on_row : Option SecretRow → Person → PlainAccessRequest → Option (Option ℕ)
on_row None person access_request = by_person person
on_row (Some row) person access_request = by_policy row.policy (question_of person row access_request)

-- the row of the secret that a text names; one that is no SecretId names none
abbrev pub secret_named : Rows → Moment → List ℕ → Option SecretRow
secret_named rows moment text = if is_secret_id text then found rows moment (secret_id text) else None

abbrev pub admission_of_access_request : Rows → Person → Moment → PlainAccessRequest → Option (Option ℕ)
admission_of_access_request rows person moment access_request =
    on_row (secret_named rows moment access_request.secret_id) person access_request

-- a request that names no secret has no statements
abbrev pub admission_if : Rows → Person → Moment → Option PlainAccessRequest → Option (Option ℕ)
admission_if rows person moment None = by_person person
admission_if rows person moment (Some access_request) = admission_of_access_request rows person moment access_request

abbrev pub admission : Rows → Person → Moment → Request → Option (Option ℕ)
admission rows person moment request =
    if asks_nothing request then None else admission_if rows person moment (access_request_of request)

-- the admission, or none where memory is wanted
abbrev pub admitted_told : Admitted → Option (Option (Option ℕ))
admitted_told Admits = Some None
admitted_told (Denied statement) = Some (Some statement)
admitted_told Memory = None
