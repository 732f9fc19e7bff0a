-- BatchGetSecretValue: its reply. It refuses nothing that its forms pass, and changes nothing.
-- AWS Secrets Manager API Reference, BatchGetSecretValue.
use Rattle.std.specs.Prelude.{ℕ, false, List, [], ◌∷◌, ◌++◌, map, Option, Some, None, ⊤, is_some, IsTrue, option_to_list}
use Rattle.sm_base.specs.declared.moment.Moment.{Moment}
use Rattle.sm_model.specs.declared.person.Person.{Person}
use Rattle.sm_model.specs.declared.reply.BatchError.{BatchError}
use Rattle.sm_model.specs.declared.reply.GotSecret.{GotSecret}
use Rattle.sm_model.specs.declared.reply.Reply.{Reply}
use Rattle.sm_model.specs.declared.reply.Reply.TheVariants as replies
use Rattle.sm_model.specs.declared.reply.SecretBatch.{SecretBatch}
use Rattle.sm_model.specs.declared.request.BatchGetSecretValue.{BatchGetSecretValue}
use Rattle.sm_model.specs.declared.request.GetSecretValue.{GetSecretValue}
use Rattle.sm_model.specs.declared.request.Request.TheVariants as requests
use Rattle.sm_model.specs.declared.rows.Rows.{Rows}
use Rattle.sm_model.specs.declared.rows.SecretRow.{SecretRow}
use Rattle.sm_model.specs.declared.why.Why.{Why}
use Rattle.sm_model.specs.declared.why.Why.TheVariants.{Denied}
use Rattle.sm_model.specs.Causes.{error_of, message_of}
use Rattle.sm_model.specs.Replies.{shown_value}
use Rattle.sm_access.specs.Admission.{admission}
use Rattle.sm_listing.specs.declared.asks.PageAsk.{PageAsk}
use Rattle.sm_base.specs.declared.limits.TheConstants.{BATCH_LIMIT}
use Rattle.sm_forms.specs.GetSecretValue.{get_forms}
use Rattle.sm_judge_common.specs.declared.judged.Judged.{Judged}
use Rattle.sm_judge_common.specs.declared.judged.Judged.TheVariants.{Accept, Refuse, Memory}
use Rattle.sm_judge_reads.specs.GetSecretValue.{get_judgement}
use Rattle.sm_judge_lists_and_passwords.specs.Pages.{page_size, filters_given, listed, page_rows}

-- ---- one secret

-- the GetSecretValue that names this SecretId and nothing else
abbrev pub alone : List ℕ → GetSecretValue
alone id = record { secret_id = id; version_id = None; version_stage = None }

-- the refusal of a request that is denied
abbrev pub denial : Option (Option ℕ) → Option Why
denial None = None
denial (Some statement) = Some (Denied statement)

-- the question whether the person may have the value of the secret with this SecretId: that of its GetSecretValue
abbrev pub value_question : Rows → Person → Moment → List ℕ → Option Why
value_question rows person moment id = denial (admission rows person moment (requests.GetSecretValue (alone id)))

-- where nobody asks, none is refused
abbrev pub no_question : List ℕ → Option Why
no_question id = None

abbrev pub unless_refused : Option Why → Judged → Judged
unless_refused None judged = judged
unless_refused (Some why) judged = Refuse why

-- what that GetSecretValue is answered: its forms come first, then a question, and then its own judgement
abbrev pub answered : (List ℕ → Option Why) → Rows → Moment → List ℕ → Judged
answered question rows moment id =
    unless_refused (get_forms (alone id))
    (unless_refused (question id) (get_judgement rows moment (alone id)))

-- and the same to a person
abbrev pub answered_to : Person → Rows → Moment → List ℕ → Judged
answered_to person rows moment id = answered (value_question rows person moment) rows moment id

-- a GetSecretValue is answered by a value or refused, and in no other way
abbrev pub IsValue : Reply → Type 0
IsValue reply = IsTrue (is_some (shown_value reply))

abbrev pub IsAnswer : Judged → Type 0
IsAnswer (Accept reply change) = IsValue reply
IsAnswer (Refuse why) = ⊤
IsAnswer Memory = ⊥

-- a value that is answered stands among the values
abbrev pub value_shown : Reply → List GotSecret
value_shown reply = option_to_list (shown_value reply)

abbrev pub value_in : Judged → List GotSecret
value_in (Accept reply change) = value_shown reply
value_in (Refuse why) = []
value_in Memory = []

-- a refusal stands among the errors, with the error and the message that a reply to it alone would have
abbrev pub error_in : List ℕ → Judged → List BatchError
error_in id (Accept reply change) = []
error_in id (Refuse why) = record { error_code = error_of why; message = message_of why; secret_id = id } ∷ []
error_in id Memory = []

-- ---- the secrets of a batch

-- the values of these SecretIds, in their order
abbrev pub values_of : (List ℕ → Judged) → List (List ℕ) → List GotSecret
values_of answer [] = []
values_of answer (id ∷ ids) = value_in (answer id) ++ values_of answer ids

-- the refusals of these SecretIds, in their order
abbrev pub errors_of : (List ℕ → Judged) → List (List ℕ) → List BatchError
errors_of answer [] = []
errors_of answer (id ∷ ids) = error_in id (answer id) ++ errors_of answer ids

abbrev pub batch_of : (List ℕ → Judged) → Option (List ℕ) → List (List ℕ) → SecretBatch
batch_of answer next ids = record {
  errors = errors_of answer ids;
  next_token = next;
  secret_values = values_of answer ids;
}

-- ---- by filters

-- the page that filters ask for: of secrets that are not scheduled for deletion, in order of creation
abbrev pub batch_ask : BatchGetSecretValue → PageAsk
batch_ask batch = record {
  filters = filters_given batch.filters;
  planned = false;
  descending = false;
  max = page_size BATCH_LIMIT batch.max_results;
  token = batch.next_token;
}

-- the page's secrets are named by their ARNs
abbrev pub row_arn : SecretRow → List ℕ
row_arn row = row.arn

abbrev pub page_batch : (List ℕ → Judged) → Rows → Moment → PageAsk → SecretBatch
page_batch answer rows moment ask =
    batch_of answer (listed rows moment ask).next (map row_arn (page_rows rows moment ask))

-- ---- the judgement

-- by SecretIds, or by filters where none are given
abbrev pub secret_batch : (List ℕ → Judged) → Rows → Moment → PageAsk → Option (List (List ℕ)) → SecretBatch
secret_batch answer rows moment ask (Some ids) = batch_of answer None ids
secret_batch answer rows moment ask None = page_batch answer rows moment ask

-- this question is asked of each secret
abbrev pub batch_judgement : (List ℕ → Option Why) → Rows → Moment → BatchGetSecretValue → Judged
batch_judgement question rows moment batch =
    Accept (replies.BatchGetSecretValue (secret_batch (answered question rows moment) rows moment (batch_ask batch)
    batch.secret_id_list)) None

-- no test comes behind the forms: a secret that is refused stands in the reply
abbrev pub batch_refusal : Rows → Moment → BatchGetSecretValue → Option Why
batch_refusal rows moment batch = None
