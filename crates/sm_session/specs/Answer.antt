-- The answer to a message at a history: the model of the API that every reply is compared with.
use Rattle.std.specs.Prelude.{ℕ, Bool, true, ◌&&◌, if◌then◌else◌, List, [], Option, Some, None, Result, Ok, Err, option_and_then, codes}
use Rattle.std.specs.Str.{bytes_eq}
use Rattle.sm_model.specs.declared.entry.Entry.{Entry}
use Rattle.sm_model.specs.declared.person.Person.{Person}
use Rattle.sm_model.specs.declared.request.Request.{Request}
use Rattle.sm_model.specs.declared.why.Why.{Why}
use Rattle.sm_model.specs.declared.why.Why.TheVariants as whys
use Rattle.sm_account.specs.Outcome.{Outcome, Refuses, Replies, Question, outcome}
use Rattle.sm_account.specs.States.{Base, state_at}
use Rattle.sm_http.specs.Heads.{field_of}
use Rattle.sm_http.specs.Messages.{Message}
use Rattle.sm_json.specs.declared.operation.Operation.{Operation}
use Rattle.sm_json.specs.declared.requests.ReadRequest.{ReadRequest}
use Rattle.sm_json.specs.declared.requests.ReadRequest.TheVariants as answers
use Rattle.sm_json.specs.Asks.{asks_of}
use Rattle.sm_json.specs.Operations.{operation_of}
use Rattle.sm_principal.specs.declared.people.People.{People}
use Rattle.sm_reply.specs.Shown.{Answered, refused, shown}
use Rattle.sm_account.specs.SeatTraces.{History}
use Rattle.sm_session.specs.Askers.{asker_of}

-- a request is POST to /
abbrev pub is_request : List ℕ → List ℕ → Bool
is_request method path = bytes_eq method (codes "POST") && bytes_eq path (codes "/")

-- the operation that a message names
abbrev pub operation_in : Message → Option Operation
operation_in message =
    if is_request message.method message.path
    then option_and_then operation_of (field_of (codes "x-amz-target") message.fields) else None

-- what is asked, and by whom
pub record Asked : Type 0 where
  pub person : Person
  pub request : Request

-- the request of a person by what was read of a body, or the cause of a refusal
abbrev pub asked_by : Person → ReadRequest → Result Asked Why
asked_by person (answers.Ok request) = Ok (record { person = person; request = request })
asked_by person answers.Unknown = Err whys.UnknownOperation
asked_by person answers.NotJson = Err whys.NotJson
asked_by person (answers.BadMember name) = Err (whys.BadMember name)
asked_by person (answers.Left name) = Err (whys.Left name)
asked_by person answers.Memory = Err whys.Memory

-- who asks, and the signature, come before the body
abbrev pub asked_of : Result Person Why → Operation → List ℕ → Result Asked Why
asked_of (Err why) operation body = Err why
asked_of (Ok person) operation body = asked_by person (asks_of operation body)

-- and the operation's name comes before who asks
abbrev pub heard_if : People → Option Operation → Message → Result Asked Why
heard_if people None message = Err whys.UnknownOperation
heard_if people (Some operation) message = asked_of (asker_of people message) operation message.body

-- who asks for what by a message, or the first refusal: of the operation's name, of who asks, of the signature, of the
-- body's JSON and of its members
abbrev pub heard : People → Message → Result Asked Why
heard people message = heard_if people (operation_in message) message

-- an answer: the reply, and the entry that is made, if one is due
pub record Answer : Type 0 where
  pub reply : Answered
  pub entry : Option Entry

-- a refusal makes no entry
abbrev pub refusing : Why → Answer
refusing why = record { reply = refused why; entry = None }

-- what is asked of an account
abbrev pub question_of : ℕ → List ℕ → Asked → Question
question_of now drawn asked =
    record { person = asked.person; now = record { 0 = now }; drawn = drawn; request = asked.request }

-- an outcome as a reply and its entry
abbrev pub answer_of : Outcome → Answer
answer_of (Refuses why) = refusing why
answer_of (Replies reply entry) = record { reply = shown reply; entry = entry }

-- the answer to a person's request at a history: its forms, then access, then the tests on the rows, then the limits
abbrev pub answer_asked : Base → History → ℕ → List ℕ → Asked → Answer
answer_asked base history now drawn asked =
    answer_of (outcome (state_at base history) (question_of now drawn asked))

abbrev pub answer_heard : Base → History → ℕ → List ℕ → Result Asked Why → Answer
answer_heard base history now drawn (Err why) = refusing why
answer_heard base history now drawn (Ok asked) = answer_asked base history now drawn asked

-- the answer to a message at a history over a base, with the clock's reading and the random bytes that were drawn
abbrev pub answer : People → Base → History → ℕ → List ℕ → Message → Answer
answer people base history now drawn message = answer_heard base history now drawn (heard people message)
