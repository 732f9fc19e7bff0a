-- Calls of a caching reader, one after the other.
use Rattle.std.specs.Prelude.{◌≡◌, ℕ, ◌+◌, ◌<◌, Bool, false, max, List, [], ◌∷◌, ◌++◌}
use Rattle.sm_base.specs.Outcomes.{OrMemory}
use Rattle.sm_base.specs.declared.moment.Moment.{Moment}
use Rattle.sm_agent.specs.declared.agent.Given.{Given}
use Rattle.sm_agent.specs.declared.agent.Given.TheVariants.{Kept, Asked}
use Rattle.sm_agent.specs.declared.question.Question.{Question}
use Rattle.sm_agent.specs.Agents.{AgentState, empty_agent, agent_moment, kept_answer, kept_told, HasStatus, Leaves}

-- a call: what was asked, whether a fresh answer was wanted, the reading of the clock, and what was given
pub record Call : Type 0 where
  pub question : Question
  pub fresh : Bool
  pub now : ℕ
  pub given : Given

-- A call does what `get` says of the agent.
pub record Goes (old : AgentState) (call : Call) (new : AgentState) : Type 0 where
  pub kept : OrMemory (kept_told call.given) (kept_answer old call.question call.fresh (agent_moment old call.now))
  pub status : HasStatus call.given
  pub leaves : Leaves call.question (agent_moment old call.now) call.given old new

-- each call follows the one before it
abbrev pub Run : AgentState → List Call → AgentState → Type 0
Run old [] new = new ≡ old
Run old (call ∷ calls) new = (next : AgentState) × Goes old call next × Run next calls new

-- the greatest reading of some calls
abbrev pub greatest : List Call → ℕ
greatest [] = 0
greatest (call ∷ calls) = max call.now (greatest calls)

-- One of these calls asked the very question, got the body with status 200, and was made at the moment: the greatest
-- reading by then.
pub record WasAsked (calls : List Call) (question : Question) (body : List ℕ) (moment : ℕ) : Type 0 where
  pub before : List Call
  pub call : Call
  pub behind : List Call
  pub among : calls ≡ before ++ call ∷ behind
  pub question_is : call.question ≡ question
  pub given : call.given ≡ Asked 200 body
  pub moment_is : greatest (before ++ call ∷ []) ≡ moment

-- A kept answer of a moment to a call, for which no fresh one was wanted, was given to one of the calls before it, and
-- lives.
pub record IsKept (ttl : ℕ) (calls : List Call) (call : Call) (body : List ℕ) (at : Moment) : Type 0 where
  pub asked : WasAsked calls call.question body at.0
  pub lives : greatest (calls ++ call ∷ []) < at.0 + ttl
  pub unforced : call.fresh ≡ false

-- in any run since the agent was built, each kept answer is such a one
abbrev pub KeptWasAsked : Type 0
KeptWasAsked = (size ttl : ℕ) (calls : List Call) (old new : AgentState) (call : Call) (status : ℕ) (body : List ℕ)
    (at : Moment) → Run (empty_agent size ttl) calls old → Goes old call new → call.given ≡ Kept status body at
    → IsKept ttl calls call body at
