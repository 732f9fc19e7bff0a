-- Streams of requests to one caching reader, one after the other.
use Rattle.std.specs.Prelude.{◌≡◌, ◌⊎◌, ℕ, List, [], ◌∷◌, ◌++◌, Some}
use Rattle.sm_agent.specs.Agents.{AgentState, empty_agent}
use Rattle.sm_agent.specs.Runs.{Call}
use Rattle.sm_agent.specs.Exchanges.{Exchange, Exchanges, WasFault, WasGiven, WasKept, calls_of}
use Rattle.sm_agent.specs.declared.answer.Answer.{Answer}

-- the turns of all streams
abbrev pub turns_of : List (List Exchange) → List Exchange
turns_of [] = []
turns_of (turns ∷ streams) = turns ++ turns_of streams

-- each stream begins with the reader that the one before it left
abbrev pub InTurn : AgentState → List (List Exchange) → AgentState → Type 0
InTurn old [] new = new ≡ old
InTurn old (turns ∷ streams) new = (next : AgentState) × Exchanges old turns next × InTurn next streams new

-- such streams are one run of requests
abbrev pub StreamsAreOneRun : Type 0
StreamsAreOneRun = (streams : List (List Exchange)) (old new : AgentState) → InTurn old streams new
    → Exchanges old (turns_of streams) new

-- In a run of requests since the reader was built, each reply to a question is a kept answer of an earlier call that
-- lives, the answer that the upstream gave in its own call, or the reply for a fault of the upstream in that call.
abbrev pub EachReplyIsGiven : Type 0
EachReplyIsGiven = (size ttl : ℕ) (front : List Exchange) (turn : Exchange) (behind : List Exchange) (new : AgentState)
    (call : Call) (answer : Answer) → Exchanges (empty_agent size ttl) (front ++ turn ∷ behind) new
    → turn.call ≡ Some call → turn.answer ≡ Some answer
    → WasKept ttl (calls_of front) call answer ⊎ (WasGiven call answer ⊎ WasFault call answer)
