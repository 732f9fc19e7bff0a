-- A stream of requests as far as it has come.
use Rattle.std.proofs.Common.{◌≡◌, ℕ, ◌+◌, ◌-◌, ◌^◌, ◌<◌, ◌≤◌, min, List, [], ◌∷◌, ◌++◌, true, false, length, map, Option, None, Some, refl, sym, ap, subst, ◌∙◌, append_assoc, append-nil, length-append, arith}
use Rattle.std.proofs.lemmas.Grind.{flat_map-append}
use Rattle.std.proofs.lemmas.List.{map-append}
use Rattle.std.specs.Io.KnownBytes.{append_known}
use Rattle.sm_base.specs.Faults.{Rose}
use Rattle.sm_http.specs.declared.answer.Message.{Message as owned}
use Rattle.sm_http.specs.declared.answer.Next.TheVariants as next
use Rattle.sm_http.specs.declared.answer.Stop.{Stop}
use Rattle.sm_http.specs.declared.reply.Sent.{Sent}
use Rattle.sm_http.specs.Chains.{unread}
use Rattle.sm_http.specs.Framed.{Sends}
use Rattle.sm_http.specs.Messages.{Message}
use Rattle.sm_http.specs.Reading.{ReaderState, content, stopped, Reads}
use Rattle.sm_agent.specs.declared.agent.Given.{Given}
use Rattle.sm_agent.specs.declared.agent.Given.TheVariants.{Kept, Asked, Failed, Memory}
use Rattle.sm_agent.specs.declared.answer.Answer.{Answer}
use Rattle.sm_agent.specs.declared.upstream.Told.{Told}
use Rattle.sm_agent.specs.Agents.{AgentState, told_given, OnGivenFailed}
use Rattle.sm_agent.specs.Runs.{Call}
use Rattle.sm_agent.specs.Exchanges.{Came, Passes, Exchange, Exchanges, told_by, read_by, OnCallFailed}
use Rattle.sm_reply.specs.Shown.{Answered}
use Rattle.sm_session.specs.declared.ended.Ended.{Ended}
use Rattle.sm_session.specs.declared.ended.Ended.TheVariants.{Enough, WriteFault}
use Rattle.sm_session.specs.Endings.{count_limit, StopsBy, Finishes, Streamed, Sides}
use Rattle.sm_session.specs.Replies.{framed_answer}
use Rattle.sm_session.specs.Streams.{message_limit}
use Rattle.sm_session.proofs.WireLemmas.{Wire, wire_first, wire_more, wire_cut, wire_enough, wire_stops}
use Rattle.sm_agent_server.specs.Streams.{Around, request_in, request_at, answered, replies_of, tells_of, tells_by, told_in, append_told, reads_by, read_in, fails_of, fails_by, failures, StreamOf}

-- ---- requests with one more

turns_more : (old : AgentState) (turns : List Exchange) (turn : Exchange) (mid new : AgentState)
    → Exchanges old turns mid
    → Came turn.method turn.path turn.call turn.answer mid new → Exchanges old (turns ++ turn ∷ []) new
turns_more old [] turn mid new same came =
    (new, subst (λ (a : AgentState). Came turn.method turn.path turn.call turn.answer a new) same came, refl)
turns_more old (first ∷ turns) turn mid new run came =
    (run.0, run.1, turns_more run.0 turns turn mid new run.2 came)

failures_more : (turns : List Exchange) (turn : Exchange)
    → failures (turns ++ turn ∷ []) ≡ failures turns + fails_by turn.call
failures_more [] turn = omega arith
failures_more (first ∷ turns) turn = let more = failures_more turns turn in omega (arith, more)

told_append : (told : Option (List Told)) (one two : List Told)
    → append_told (append_told told one) two ≡ append_told told (one ++ two)
told_append None one two = refl
told_append (Some told) one two = ap Some (append_assoc told one two)

told_none : (told : Option (List Told)) → append_told told [] ≡ told
told_none None = refl
told_none (Some told) = ap Some (append-nil told)

known_append : (known : Option (List ℕ)) (one two : List ℕ)
    → append_known (append_known known one) two ≡ append_known known (one ++ two)
known_append None one two = refl
known_append (Some known) one two = ap Some (append_assoc known one two)

known_none : (known : Option (List ℕ)) → append_known known [] ≡ known
known_none None = refl
known_none (Some known) = ap Some (append-nil known)

-- what the upstream tells behind a call is what it told, and then of the call
told_is : (call : Option Call) (told : Option (List Told)) → told_by call told ≡ append_told told (tells_by call)
told_is None told = sym (told_none told)
told_is (Some call) told = by call.given told
  where
    by : (given : Given) (told : Option (List Told)) → told_given call.question given told
        ≡ append_told told (tells_of call.question given)
    by (Kept status body at) told = sym (told_none told)
    by (Asked status body) None = refl
    by (Asked status body) (Some told) = refl
    by Failed None = refl
    by Failed (Some told) = refl
    by Memory told = sym (told_none told)

read_is : (call : Option Call) (readings : Option (List ℕ)) → read_by call readings
    ≡ append_known readings (reads_by call)
read_is None readings = sym (known_none readings)
read_is (Some call) readings = refl

fails_is : (call : Option Call) (before now : ℕ) → OnCallFailed call (Rose before now) → before ≤ now
    → min (before + fails_by call) (2 ^ 64 - 1) ≤ now
fails_is None before now rose later = omega (arith, later)
fails_is (Some call) before now rose later = by call.given rose
  where
    by : (given : Given) → OnGivenFailed given (Rose before now)
        → min (before + fails_of given) (2 ^ 64 - 1) ≤ now
    by (Kept status body at) rose = omega (arith, later)
    by (Asked status body) rose = omega (arith, later)
    by Failed rose = rose
    by Memory rose = omega (arith, later)

-- ---- the course of a stream

-- So many messages were answered from before to now.
pub record Course (old : AgentState) (before : Around) (number : ℕ) (agent : AgentState) (now : Around)
    (reader : ReaderState) (count : ℕ) : Type 0 where
  pub messages : List Message
  pub turns : List Exchange
  pub size : length messages ≡ number
  pub requests : map request_in messages ≡ map request_at turns
  pub comes : Exchanges old turns agent
  pub wire : Wire before.sides messages (replies_of turns) now.sides reader count
  pub told : now.told ≡ append_told before.told (told_in turns)
  pub readings : now.readings ≡ append_known before.readings (read_in turns)
  pub faults : min (before.faults + failures turns) (2 ^ 64 - 1) ≤ now.faults

pub course_first : (old : AgentState) (around : Around) (reader : ReaderState) → reader ≡ unread
    → Course old around 0 old around reader 0
course_first old around reader fresh = record {
  messages = [];
  turns = [];
  size = refl;
  requests = refl;
  comes = refl;
  wire = wire_first around.sides reader fresh;
  told = sym (told_none around.told);
  readings = sym (known_none around.readings);
  faults = omega arith;
}

-- A message that was read and answered: from what was around it to what is after.
pub record Step (agent new : AgentState) (reader reader' : ReaderState) (now after : Around) (message : owned)
    (call : Option Call) (answer : Option Answer) (sent : Sent) : Type 0 where
  pub came : Came message.method message.path call answer agent new
  pub passes : Passes call now.told after.told now.readings after.readings now.faults after.faults
  pub reads : Reads reader (next.Message message) reader' now.sides.left after.sides.left
  pub source : now.sides.source ≤ after.sides.source
  pub sink : now.sides.sink ≤ after.sides.sink
  pub sends : Sends sent (framed_answer (answered answer)) now.sides.taken after.sides.taken now.sides.sink
      after.sides.sink

module _ (old : AgentState) (before : Around) (number : ℕ) (agent : AgentState) (now : Around) (reader : ReaderState)
    (count : ℕ) (c : Course old before number agent now reader count) where
  pub course_enough : number ≡ message_limit → StreamOf Enough old agent before now
  course_enough all = record {
    messages = c.messages;
    turns = c.turns;
    requests = c.requests;
    comes = c.comes;
    streamed = wire_enough before.sides now.sides c.messages (replies_of c.turns) reader count c.wire (c.size ∙ all);
    told = c.told;
    readings = c.readings;
    faults = c.faults;
  }

  -- the reader stopped, and only the sides of the stream changed since
  pub course_stops : (reader' : ReaderState) (sides : Sides) (why : Stop) (ended : Ended) → number < message_limit
      → Reads reader (stopped why) reader' now.sides.left sides.left
      → StopsBy reader.ended why now.sides.left sides.left (Rose now.sides.source sides.source)
      → Finishes why count ended now.sides.taken sides.taken now.sides.sink sides.sink
      → StreamOf ended old agent before (record now { sides = sides })
  course_stops reader' sides why ended few reads by f = record {
    messages = c.messages;
    turns = c.turns;
    requests = c.requests;
    comes = c.comes;
    streamed = wire_stops before.sides now.sides c.messages (replies_of c.turns) reader count c.wire reader' sides
        (subst (λ n. n < message_limit) (sym c.size) few) why ended reads by f;
    told = c.told;
    readings = c.readings;
    faults = c.faults;
  }

  module _ (new : AgentState) (reader' : ReaderState) (after : Around) (message : owned) (call : Option Call)
      (answer : Option Answer) (sent : Sent) (s : Step agent new reader reader' now after message call answer sent)
      (count' : ℕ) (counts : count' ≡ min (count + sent.taken) count_limit) where
    abbrev its : Exchange
    its = record { method = message.method; path = message.path; call = call; answer = answer }

    requests_more : map request_in (c.messages ++ content message ∷ []) ≡ map request_at (c.turns ++ its ∷ [])
    requests_more = map-append request_in c.messages (content message ∷ [])
        ∙ ap (λ (l : List (List ℕ × List ℕ)). l ++ (message.method, message.path) ∷ []) c.requests
        ∙ sym (map-append request_at c.turns (its ∷ []))

    replies_more : replies_of c.turns ++ answered answer ∷ [] ≡ replies_of (c.turns ++ its ∷ [])
    replies_more = sym (map-append (λ (turn : Exchange). answered turn.answer) c.turns (its ∷ []))

    comes_more : Exchanges old (c.turns ++ its ∷ []) new
    comes_more = turns_more old c.turns its agent new c.comes s.came

    told_more : after.told ≡ append_told before.told (told_in (c.turns ++ its ∷ []))
    told_more =
        s.passes.upstream ∙ told_is call now.told
        ∙ ap (λ (t : Option (List Told)). append_told t (tells_by call)) c.told
        ∙ told_append before.told (told_in c.turns) (tells_by call)
        ∙ ap (append_told before.told)
        (sym (flat_map-append (λ (turn : Exchange). tells_by turn.call) c.turns (its ∷ [])
        ∙ ap (λ (l : List Told). told_in c.turns ++ l) (append-nil (tells_by call))))

    read_more : after.readings ≡ append_known before.readings (read_in (c.turns ++ its ∷ []))
    read_more =
        s.passes.clock ∙ read_is call now.readings
        ∙ ap (λ (t : Option (List ℕ)). append_known t (reads_by call)) c.readings
        ∙ known_append before.readings (read_in c.turns) (reads_by call)
        ∙ ap (append_known before.readings)
        (sym (flat_map-append (λ (turn : Exchange). reads_by turn.call) c.turns (its ∷ [])
        ∙ ap (λ (l : List ℕ). read_in c.turns ++ l) (append-nil (reads_by call))))

    faults_more : min (before.faults + failures (c.turns ++ its ∷ [])) (2 ^ 64 - 1) ≤ after.faults
    faults_more =
        let so_far : min (before.faults + failures c.turns) (2 ^ 64 - 1) ≤ now.faults = c.faults in
        let here : min (now.faults + fails_by call) (2 ^ 64 - 1) ≤ after.faults =
        fails_is call now.faults after.faults s.passes.failed s.passes.later in
        let all : failures (c.turns ++ its ∷ []) ≡ failures c.turns + fails_by call = failures_more c.turns its in
        omega (arith, so_far, here, all)

    pub course_more : sent.whole ≡ true → Course old before (number + 1) new after reader' count'
    course_more whole = record {
      messages = c.messages ++ content message ∷ [];
      turns = c.turns ++ its ∷ [];
      size = length-append c.messages (content message ∷ []) ∙ ap (λ n. n + 1) c.size;
      requests = requests_more;
      comes = comes_more;
      wire = subst
          (λ (r : List Answered). Wire before.sides (c.messages ++ content message ∷ []) r after.sides reader' count')
          replies_more
          (wire_more before.sides now.sides c.messages (replies_of c.turns) reader count c.wire message reader'
          after.sides s.reads s.source s.sink (answered answer) sent s.sends count' counts whole);
      told = told_more;
      readings = read_more;
      faults = faults_more;
    }

    -- the sink failed within the reply
    pub course_cut : number < message_limit → sent.whole ≡ false
        → StreamOf (WriteFault count') old new before after
    course_cut few part = record {
      messages = c.messages ++ content message ∷ [];
      turns = c.turns ++ its ∷ [];
      requests = requests_more;
      comes = comes_more;
      streamed = subst (λ (r : List Answered).
          Streamed (WriteFault count') before.sides after.sides (c.messages ++ content message ∷ []) r) replies_more
          (wire_cut before.sides now.sides c.messages (replies_of c.turns) reader count c.wire message reader'
          after.sides s.reads s.source s.sink (answered answer) sent s.sends count' counts
          (subst (λ n. n < message_limit) (sym c.size) few) part);
      told = told_more;
      readings = read_more;
      faults = faults_more;
    }
