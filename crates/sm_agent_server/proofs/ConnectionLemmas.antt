-- Streams of requests to one caching reader, one after the other.
use Rattle.std.proofs.Common.{◌≡◌, List, [], ◌∷◌, ◌++◌, Some, refl, subst}
use Rattle.sm_agent.specs.Agents.{AgentState, empty_agent}
use Rattle.sm_agent.specs.Exchanges.{Came, Exchange, Exchanges}
use Rattle.sm_agent.proofs.ExchangeLemmas.{replies_are_given}
use Rattle.sm_agent_server.specs.Connections.{EachReplyIsGiven, InTurn, StreamsAreOneRun, turns_of}

turns_joined : (old : AgentState) (turns more : List Exchange) (mid new : AgentState) → Exchanges old turns mid
    → Exchanges mid more new → Exchanges old (turns ++ more) new
turns_joined old [] more mid new same run = subst (λ (a : AgentState). Exchanges a more new) same run
turns_joined old (turn ∷ turns) more mid new first run =
    (first.0, first.1, turns_joined first.0 turns more mid new first.2 run)

pub streams_joined : StreamsAreOneRun
streams_joined [] old new same = same
streams_joined (turns ∷ streams) old new run =
    turns_joined old turns (turns_of streams) run.0 new run.1 (streams_joined streams run.0 new run.2)

-- a turn of a run, with the requests before it
record TurnIn (old : AgentState) (front : List Exchange) (turn : Exchange) : Type 0 where
  mid : AgentState
  next : AgentState
  before : Exchanges old front mid
  came : Came turn.method turn.path turn.call turn.answer mid next

turn_in : (old : AgentState) (front : List Exchange) (turn : Exchange) (behind : List Exchange) (new : AgentState)
    → Exchanges old (front ++ turn ∷ behind) new → TurnIn old front turn
turn_in old [] turn behind new run = record { mid = old; next = run.0; before = refl; came = run.1 }
turn_in old (first ∷ front) turn behind new run =
    let found = turn_in run.0 front turn behind new run.2 in
    record { mid = found.mid; next = found.next; before = (run.0, run.1, found.before); came = found.came }

pub each_reply_given : EachReplyIsGiven
each_reply_given size ttl front turn behind new call answer run called answered =
    let found = turn_in (empty_agent size ttl) front turn behind new run in
    replies_are_given size ttl front found.mid found.next turn.method turn.path call answer found.before
    (subst (λ given. Came turn.method turn.path (Some call) given found.mid found.next) answered
    (subst (λ made. Came turn.method turn.path made turn.answer found.mid found.next) called found.came))
