-- How a stream of messages and their replies ends.
use Rattle.std.specs.Prelude.{◌≡◌, ℕ, ◌+◌, ◌-◌, ◌^◌, min, ◌<◌, ◌≤◌, ◌⊎◌, MatchBool, MatchOption, IfNone, List, [], ◌∷◌, ◌++◌, length, take, Option, Result, Ok, Err, ⊤}
use Rattle.std.specs.Io.KnownBytes.{prepend_known, append_known, IsAtEnd}
use Rattle.std.specs.List.{flat_map}
use Rattle.sm_base.specs.Faults.{Rose}
use Rattle.sm_base.specs.declared.bad_kind.BadKind.{BadKind}
use Rattle.sm_http.specs.declared.answer.Message.{Message as owned}
use Rattle.sm_http.specs.declared.answer.Next.{Next}
use Rattle.sm_http.specs.declared.answer.Next.TheVariants as next
use Rattle.sm_http.specs.declared.answer.Stop.{Stop}
use Rattle.sm_http.specs.declared.answer.Stop.TheVariants as stop
use Rattle.sm_http.specs.declared.reply.Sent.{Sent}
use Rattle.sm_http.specs.Framed.{Sends}
use Rattle.sm_http.specs.Messages.{Message, Closing as ClosesIt, Bad as BadBytes, Rest, Messages}
use Rattle.sm_http.specs.Reading.{last_place, stopped}
use Rattle.sm_reply.specs.Shown.{Answered}
use Rattle.sm_session.specs.declared.ended.Ended.{Ended}
use Rattle.sm_session.specs.declared.ended.Ended.TheVariants.{Closed, Cut, Bad, Enough, ReadFault, WriteFault, Memory}
use Rattle.sm_session.specs.Replies.{IsBadReply, framed_answer}
use Rattle.sm_session.specs.Streams.{message_limit, StartWith}
use Rattle.sm_session.specs.Told.{Growth}

-- the greatest count of bytes that is told
abbrev pub count_limit : ℕ
count_limit = 2 ^ 64 - 1

-- what a source has left, what a sink took, and their counts of faults
pub record Sides : Type 0 where
  pub left : Option (List ℕ)
  pub taken : Option (List ℕ)
  pub source : ℕ
  pub sink : ℕ

-- a reader's answer, where it is a message or why there is none
abbrev pub next_of : Result owned Stop → Next
next_of (Ok message) = next.Message message
next_of (Err why) = stopped why

-- Why a reader stopped at what is outside: only at its end it says that the stream ended, and only where the source's
-- count rose that this failed. A reader that had stopped before says so again.
abbrev pub StopsBy : Option Stop → Stop → Option (List ℕ) → Option (List ℕ) → Type 0 → Type 0
StopsBy before (stop.Bad kind at) old new Failed = ⊤
StopsBy before stop.End old new Failed = MatchOption before (IsAtEnd new) (λ _. new ≡ old)
StopsBy before (stop.Cut count) old new Failed = IfNone before (IsAtEnd new)
StopsBy before stop.ReadFault old new Failed = IfNone before Failed
StopsBy before stop.Memory old new Failed = ⊤

-- the reply to a bad message was written, or the sink failed within it: so many bytes had been taken before
pub record Refuses (kind : BadKind) (at counted : ℕ) (ended : Ended) (old new : Option (List ℕ)) (before now : ℕ)
    : Type 0 where
  pub last : Answered
  pub is : IsBadReply kind last
  pub sent : Sent
  pub sends : Sends sent (framed_answer last) old new before now
  pub ends : MatchBool sent.whole (ended ≡ Bad kind at) (ended ≡ WriteFault (min (counted + sent.taken) count_limit))

-- the stream ends where the reader stopped; only the reply to a bad message is written
abbrev pub Finishes : Stop → ℕ → Ended → Option (List ℕ) → Option (List ℕ) → ℕ → ℕ → Type 0
Finishes (stop.Bad kind at) counted ended old new before now = Refuses kind at counted ended old new before now
Finishes stop.End counted ended old new before now = (ended ≡ Closed) × (new ≡ old)
Finishes (stop.Cut count) counted ended old new before now = (ended ≡ Cut count) × (new ≡ old)
Finishes stop.ReadFault counted ended old new before now = (ended ≡ ReadFault) × (new ≡ old)
Finishes stop.Memory counted ended old new before now = (ended ≡ Memory) × (new ≡ old)

-- the bytes of replies, one after the other
abbrev pub joined : List Answered → List ℕ
joined replies = flat_map framed_answer replies

-- What passed on a stream: what was read, and is left of the source then; the messages that were answered, their
-- replies, and what was written; and how the counts of source and sink grew.
pub record Passage : Type 0 where
  pub input : List ℕ
  pub left : Option (List ℕ)
  pub messages : List Message
  pub replies : List Answered
  pub written : List ℕ
  pub source : Growth
  pub sink : Growth

-- the sink failed within this reply, behind the earlier ones
pub record CutWithin (earlier : List Answered) (last : Answered) (counted : ℕ) (written : List ℕ) : Type 0 where
  pub size : ℕ
  pub short : size < length (framed_answer last)
  pub writes : written ≡ joined earlier ++ take size (framed_answer last)
  pub counts : counted ≡ min (length written) count_limit

-- it failed within the reply to the last of the messages that were answered
pub record CutAtLast (passage : Passage) (counted : ℕ) : Type 0 where
  pub begin : StartWith passage.input passage.messages
  pub earlier : List Answered
  pub last : Answered
  pub parts : passage.replies ≡ earlier ++ last ∷ []
  pub within : CutWithin earlier last counted passage.written

-- it failed within the reply to the bad message behind them
pub record CutAtBad (passage : Passage) (counted : ℕ) : Type 0 where
  pub kind : BadKind
  pub place : ℕ
  pub ends : Messages passage.input 0 passage.messages (BadBytes kind place)
  pub fewer : length passage.messages < message_limit
  pub last : Answered
  pub is : IsBadReply kind last
  pub within : CutWithin passage.replies last counted passage.written

-- a bad message follows those that were answered, and its reply follows theirs
pub record AnswersBadly (passage : Passage) (kind : BadKind) (at : ℕ) : Type 0 where
  pub place : ℕ
  pub ends : Messages passage.input 0 passage.messages (BadBytes kind place)
  pub at_is : at ≡ min place last_place
  pub last : Answered
  pub is : IsBadReply kind last
  pub writes : passage.written ≡ joined passage.replies ++ framed_answer last

-- Why a stream ended so. Only at a bad message more was written than the replies, and only where the sink failed less.
-- After as many messages as are answered at most the stream ends by that, whatever follows.
abbrev pub EndsBy : Ended → Passage → Type 0
EndsBy Closed p = (length p.messages < message_limit) × (p.written ≡ joined p.replies)
    × (Messages p.input 0 p.messages ClosesIt ⊎ (Messages p.input 0 p.messages (Rest 0) × IsAtEnd p.left))
EndsBy (Cut n) p = (length p.messages < message_limit) × (p.written ≡ joined p.replies)
    × Messages p.input 0 p.messages (Rest n) × (0 < n) × IsAtEnd p.left
EndsBy (Bad kind at) p = (length p.messages < message_limit) × AnswersBadly p kind at
EndsBy Enough p = (length p.messages ≡ message_limit) × (p.written ≡ joined p.replies) × StartWith p.input p.messages
EndsBy ReadFault p = (length p.messages < message_limit) × (p.written ≡ joined p.replies)
    × (n : ℕ) × Messages p.input 0 p.messages (Rest n) × Rose p.source.before p.source.after
EndsBy (WriteFault counted) p = (length p.messages ≤ message_limit) × Rose p.sink.before p.sink.after
    × (CutAtLast p counted ⊎ CutAtBad p counted)
EndsBy Memory p = (length p.messages < message_limit) × (p.written ≡ joined p.replies) × StartWith p.input p.messages

-- A stream from one state of its sides to another: these messages were answered with these replies, and it ended so.
pub record Streamed (ended : Ended) (old new : Sides) (messages : List Message) (replies : List Answered) : Type 0 where
  pub input : List ℕ
  pub written : List ℕ
  pub reads : old.left ≡ prepend_known input new.left
  pub writes : new.taken ≡ append_known old.taken written
  pub ends : EndsBy ended (record {
    input = input;
    left = new.left;
    messages = messages;
    replies = replies;
    written = written;
    source = record { before = old.source; after = new.source };
    sink = record { before = old.sink; after = new.sink };
  })
