-- What comes of requests, one after the other.
use Rattle.std.specs.Prelude.{◌≡◌, ℕ, ◌≤◌, ⊤, ◌⊎◌, List, [], ◌∷◌, Bool, Option, None, Some, Result, Ok, Err}
use Rattle.std.specs.Io.KnownBytes.{append_known}
use Rattle.sm_base.specs.Faults.{Rose}
use Rattle.sm_base.specs.declared.moment.Moment.{Moment}
use Rattle.sm_agent.specs.declared.agent.Given.TheVariants.{Kept, Asked, Failed}
use Rattle.sm_agent.specs.declared.answer.Answer.{Answer}
use Rattle.sm_agent.specs.declared.path.QueryRefused.{QueryRefused}
use Rattle.sm_agent.specs.declared.question.Question.{Question}
use Rattle.sm_agent.specs.declared.upstream.Told.{Told}
use Rattle.sm_agent.specs.Agents.{AgentState, empty_agent, told_given, OnGivenFailed, StaysUnlessGivenFailed}
use Rattle.sm_agent.specs.Replies.{reply, upstream_fault, refused_reply, given_reply, request_of}
use Rattle.sm_agent.specs.Runs.{Call, Goes, IsKept}

-- the call is by the question that is asked; there is none where nothing is, or memory was wanted to read it
abbrev pub AsksBy : Result (Question × Bool) QueryRefused → Option Call → Type 0
AsksBy asked None = ⊤
AsksBy asked (Some call) = asked ≡ Ok (call.question, call.fresh)

-- what the call leaves of the agent
abbrev pub GoesBy : Option Call → AgentState → AgentState → Type 0
GoesBy None old new = new ≡ old
GoesBy (Some call) old new = Goes old call new

-- the reply by the call, or to what was refused; none where only memory can have been wanted
abbrev pub reply_by : Result (Question × Bool) QueryRefused → Option Call → Option Answer
reply_by asked (Some call) = given_reply call.given
reply_by (Ok question) None = None
reply_by (Err refused) None = refused_reply refused

-- the reply is this, or memory was wanted
abbrev pub IsReply : Option Answer → Option Answer → Type 0
IsReply None wanted = ⊤
IsReply (Some answer) wanted = wanted ≡ Some answer

-- What came of a request: its call, where it has one, its reply, where there was memory, and what is left.
pub record Came (method path : List ℕ) (call : Option Call) (answer : Option Answer)
    (old new : AgentState) : Type 0 where
  pub asks : AsksBy (request_of method path) call
  pub goes : GoesBy call old new
  pub replies : IsReply answer (reply_by (request_of method path) call)

-- what the upstream tells behind the call
abbrev pub told_by : Option Call → Option (List Told) → Option (List Told)
told_by None told = told
told_by (Some call) told = told_given call.question call.given told

-- and the clock
abbrev pub read_by : Option Call → Option (List ℕ) → Option (List ℕ)
read_by None readings = readings
read_by (Some call) readings = append_known readings (call.now ∷ [])

-- a fact where the call failed
abbrev pub OnCallFailed : Option Call → Type 0 → Type 0
OnCallFailed None P = ⊤
OnCallFailed (Some call) P = OnGivenFailed call.given P

-- the count stays, but where the call failed
abbrev pub StaysUnlessCallFailed : Option Call → ℕ → ℕ → Type 0
StaysUnlessCallFailed None old new = new ≡ old
StaysUnlessCallFailed (Some call) old new = StaysUnlessGivenFailed call.given old new

-- What passed between a request and the outside: what the upstream and the clock tell, and how often it failed.
pub record Passes (call : Option Call) (told told' : Option (List Told)) (readings readings' : Option (List ℕ))
    (before now : ℕ) : Type 0 where
  pub upstream : told' ≡ told_by call told
  pub clock : readings' ≡ read_by call readings
  pub failed : OnCallFailed call (Rose before now)
  pub later : before ≤ now
  pub no_other : StaysUnlessCallFailed call before now

-- ---- requests, one after the other

-- a request and what came of it
pub record Exchange : Type 0 where
  pub method : List ℕ
  pub path : List ℕ
  pub call : Option Call
  pub answer : Option Answer

-- each turn follows the one before it
abbrev pub Exchanges : AgentState → List Exchange → AgentState → Type 0
Exchanges old [] new = new ≡ old
Exchanges old (turn ∷ turns) new = (next : AgentState) × Came turn.method turn.path turn.call turn.answer old next
    × Exchanges next turns new

-- with the call of a turn, where it has one, in front
abbrev pub call_first : Option Call → List Call → List Call
call_first None calls = calls
call_first (Some call) calls = call ∷ calls

-- the calls of turns
abbrev pub calls_of : List Exchange → List Call
calls_of [] = []
calls_of (turn ∷ turns) = call_first turn.call (calls_of turns)

-- A reply is that of a kept answer, which the upstream gave to that very question in an earlier call, and which lives.
pub record WasKept (ttl : ℕ) (calls : List Call) (call : Call) (answer : Answer) : Type 0 where
  pub body : List ℕ
  pub at : Moment
  pub given : call.given ≡ Kept 200 body at
  pub answer_is : answer ≡ reply 200 body
  pub kept : IsKept ttl calls call body at

-- It is the answer that the upstream gave to that very question in this call.
pub record WasGiven (call : Call) (answer : Answer) : Type 0 where
  pub status : ℕ
  pub body : List ℕ
  pub given : call.given ≡ Asked status body
  pub answer_is : answer ≡ reply status body

-- It is the reply for a fault of the upstream in this call.
pub record WasFault (call : Call) (answer : Answer) : Type 0 where
  pub given : call.given ≡ Failed
  pub answer_is : answer ≡ upstream_fault

-- in any run of requests since the agent was built, each reply to a question is one of the three
abbrev pub RepliesAreGiven : Type 0
RepliesAreGiven = (size ttl : ℕ) (turns : List Exchange) (old new : AgentState) (method path : List ℕ) (call : Call)
    (answer : Answer) → Exchanges (empty_agent size ttl) turns old → Came method path (Some call) (Some answer) old new
    → WasKept ttl (calls_of turns) call answer ⊎ (WasGiven call answer ⊎ WasFault call answer)
