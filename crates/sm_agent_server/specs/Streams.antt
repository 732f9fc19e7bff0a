-- A stream of requests to a caching reader.
use Rattle.std.specs.Prelude.{◌≡◌, ℕ, ◌+◌, ◌-◌, ◌^◌, ◌≤◌, min, List, [], ◌∷◌, ◌++◌, map, Option, None, Some}
use Rattle.std.specs.List.{flat_map}
use Rattle.std.specs.Io.KnownBytes.{append_known}
use Rattle.sm_agent.specs.declared.agent.Given.{Given}
use Rattle.sm_agent.specs.declared.agent.Given.TheVariants.{Kept, Asked, Failed, Memory}
use Rattle.sm_agent.specs.declared.answer.Answer.{Answer}
use Rattle.sm_agent.specs.declared.question.Question.{Question}
use Rattle.sm_agent.specs.declared.upstream.Told.{Told}
use Rattle.sm_agent.specs.declared.upstream.Upstream.{Ghosts as UpstreamGhosts}
use Rattle.sm_agent.specs.Agents.{AgentState}
use Rattle.sm_agent.specs.Runs.{Call}
use Rattle.sm_agent.specs.Exchanges.{Exchange, Exchanges}
use Rattle.sm_agent.specs.Upstreams.{answered as answered_told, unanswered}
use Rattle.sm_http.specs.Messages.{Message}
use Rattle.sm_io.specs.declared.clock.Clock.{Ghosts as ClockGhosts}
use Rattle.sm_io.specs.declared.sink.Sink.{Ghosts as SinkGhosts}
use Rattle.sm_io.specs.declared.source.Source.{Ghosts as SourceGhosts}
use Rattle.sm_reply.specs.Shown.{Answered}
use Rattle.sm_session.specs.declared.ended.Ended.{Ended}
use Rattle.sm_session.specs.Endings.{Sides, Streamed}
use Rattle.sm_session.specs.Replies.{unavailable}

-- what is around a reader: the two sides of the stream, what the upstream and the clock told, and how often the
-- upstream failed
pub record Around : Type 0 where
  pub sides : Sides
  pub told : Option (List Told)
  pub readings : Option (List ℕ)
  pub faults : ℕ

-- how it shows itself
abbrev pub around_by : {Q K U C : Type 0} → SourceGhosts Q → SinkGhosts K → UpstreamGhosts U → ClockGhosts C
    → Q → K → U → C → Around
around_by sources sinks upstreams clocks source sink upstream clock = record {
  sides = record {
    left = sources.left source;
    taken = sinks.taken sink;
    source = sources.source_faults source;
    sink = sinks.sink_faults sink;
  };
  told = upstreams.told upstream;
  readings = clocks.readings clock;
  faults = upstreams.faults upstream;
}

-- a request by its method and its path
abbrev pub request_in : Message → List ℕ × List ℕ
request_in message = (message.method, message.path)

abbrev pub request_at : Exchange → List ℕ × List ℕ
request_at turn = (turn.method, turn.path)

-- the reply that is written: where there was no memory, the one for want of it
abbrev pub answered : Option Answer → Answered
answered None = unavailable
answered (Some answer) = record { status = answer.status; body = answer.body }

-- the replies to requests
abbrev pub replies_of : List Exchange → List Answered
replies_of turns = map (λ turn. answered turn.answer) turns

-- what the upstream tells of a question: its answer, or that it failed; nothing of one that was not asked
abbrev pub tells_of : Question → Given → List Told
tells_of question (Kept status body at) = []
tells_of question (Asked status body) = answered_told question status body ∷ []
tells_of question Failed = unanswered question ∷ []
tells_of question Memory = []

-- of a call
abbrev pub tells_by : Option Call → List Told
tells_by None = []
tells_by (Some call) = tells_of call.question call.given

-- of requests, in their order
abbrev pub told_in : List Exchange → List Told
told_in turns = flat_map (λ turn. tells_by turn.call) turns

-- what was told, where something is, and then this
abbrev pub append_told : Option (List Told) → List Told → Option (List Told)
append_told None more = None
append_told (Some told) more = Some (told ++ more)

-- the readings of the clock: one for each call
abbrev pub reads_by : Option Call → List ℕ
reads_by None = []
reads_by (Some call) = call.now ∷ []

abbrev pub read_in : List Exchange → List ℕ
read_in turns = flat_map (λ turn. reads_by turn.call) turns

-- how many of them the upstream failed
abbrev pub fails_of : Given → ℕ
fails_of (Kept status body at) = 0
fails_of (Asked status body) = 0
fails_of Failed = 1
fails_of Memory = 0

abbrev pub fails_by : Option Call → ℕ
fails_by None = 0
fails_by (Some call) = fails_of call.given

abbrev pub failures : List Exchange → ℕ
failures [] = 0
failures (turn ∷ turns) = fails_by turn.call + failures turns

-- A stream of a reader, from what was around it before to what is after: the messages that were answered, what came of
-- each, and how the stream ended.
pub record StreamOf (ended : Ended) (old new : AgentState) (before after : Around) : Type 0 where
  pub messages : List Message
  pub turns : List Exchange
  pub requests : map request_in messages ≡ map request_at turns
  pub comes : Exchanges old turns new
  pub streamed : Streamed ended before.sides after.sides messages (replies_of turns)
  pub told : after.told ≡ append_told before.told (told_in turns)
  pub readings : after.readings ≡ append_known before.readings (read_in turns)
  pub faults : min (before.faults + failures turns) (2 ^ 64 - 1) ≤ after.faults
