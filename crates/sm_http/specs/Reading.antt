-- What a reader of messages holds, and what it answers: RFC 9112, sections 2.2, 6 and 9.3.
use Rattle.std.specs.Prelude.{◌≡◌, ℕ, ◌+◌, ◌-◌, ◌^◌, ◌<◌, min, List, [], ◌++◌, length, map, Option, Some, None, MatchOption, if◌then◌else◌, ⊤}
use Rattle.std.specs.Io.KnownBytes.{prepend_known}
use Rattle.sm_http.specs.declared.answer.Field.{Field}
use Rattle.sm_http.specs.declared.answer.Message.{Message}
use Rattle.sm_http.specs.declared.answer.Stop.{Stop}
use Rattle.sm_http.specs.declared.answer.Stop.TheVariants as stop
use Rattle.sm_http.specs.declared.answer.Next.{Next}
use Rattle.sm_http.specs.declared.answer.Next.TheVariants as next
use Rattle.sm_http.specs.Heads.{NameValue}
use Rattle.sm_http.specs.Messages as model
use Rattle.sm_http.specs.Messages.{IsMessage, StartsBadly, IsPartial}

-- the greatest number of a byte that is told: each byte past it has this number
abbrev pub last_place : ℕ
last_place = 2 ^ 64 - 1

-- the number of the byte so many behind a byte
abbrev pub further : ℕ → ℕ → ℕ
further at n = min (at + n) last_place

-- what a reader holds: the bytes that it read and did not use, the number of the first of them in the stream, and
-- why it gives no more messages, where it gives none
pub record ReaderState : Type 0 where
  pub ahead : List ℕ
  pub at : ℕ
  pub ended : Option Stop

-- the field as a name and a value
abbrev pub pair_of : Field → NameValue
pair_of field = (field.name, field.value)

-- the message without its place
abbrev pub content : Message → model.Message
content message = record {
  method = message.method;
  path = message.path;
  fields = map pair_of message.fields;
  closing = message.closing;
  body = message.body;
}

-- the answer of a reader that stopped
abbrev pub stopped : Stop → Next
stopped (stop.Bad kind at) = next.Bad kind at
stopped stop.End = next.End
stopped (stop.Cut count) = next.Cut count
stopped stop.ReadFault = next.ReadFault
stopped stop.Memory = next.Memory

-- Where a reader stops at the bytes that are ahead, whose first has this number: a fault stands there, or the stream
-- ends there, or within a message, or the source fails before a message is whole. Want of memory may come at any bytes.
abbrev pub StopsAt : List ℕ → ℕ → Stop → Type 0
StopsAt bytes at (stop.Bad kind place) = (place ≡ at) × StartsBadly bytes kind
StopsAt bytes at stop.End = bytes ≡ []
StopsAt bytes at (stop.Cut count) = (count ≡ length bytes) × (0 < count) × IsPartial bytes
StopsAt bytes at stop.ReadFault = IsPartial bytes
StopsAt bytes at stop.Memory = ⊤

-- the reader stopped, and keeps all bytes
abbrev pub Stops : ReaderState → List ℕ → Stop → ReaderState → Type 0
Stops old bytes why new = StopsAt bytes old.at why × (new ≡ record { ahead = bytes; at = old.at; ended = Some why })

-- What a reader answers of the bytes that are ahead then, and what it holds after it. A message is at the front of
-- them, and what is behind it stays; after one that closes the stream the reader has ended.
abbrev pub Answers : ReaderState → List ℕ → Next → ReaderState → Type 0
Answers old bytes (next.Message message) new =
    (rest : List ℕ) × IsMessage bytes (content message) rest × (message.at ≡ old.at)
    × (new ≡ record {
      ahead = rest;
      at = further old.at (length bytes - length rest);
      ended = if message.closing then Some stop.End else None;
    })
Answers old bytes (next.Bad kind at) new = Stops old bytes (stop.Bad kind at) new
Answers old bytes next.End new = Stops old bytes stop.End new
Answers old bytes (next.Cut count) new = Stops old bytes (stop.Cut count) new
Answers old bytes next.ReadFault new = Stops old bytes stop.ReadFault new
Answers old bytes next.Memory new = Stops old bytes stop.Memory new

-- What was left of the source begins with what the reader took, and the answer is by that and the bytes that it held. A
-- reader that gave another answer than a message gives it again.
abbrev pub Reads : ReaderState → Next → ReaderState → Option (List ℕ) → Option (List ℕ) → Type 0
Reads old answer new before after = MatchOption old.ended
    ((taken : List ℕ) × (before ≡ prepend_known taken after) × Answers old (old.ahead ++ taken) answer new)
    (λ why. (answer ≡ stopped why) × (new ≡ old))

-- a fact where a reader answers that the stream ended
abbrev pub OnStreamEnd : Next → Type 0 → Type 0
OnStreamEnd (next.Message message) P = ⊤
OnStreamEnd (next.Bad kind at) P = ⊤
OnStreamEnd next.End P = P
OnStreamEnd (next.Cut count) P = P
OnStreamEnd next.ReadFault P = ⊤
OnStreamEnd next.Memory P = ⊤

-- a fact where a reader answers that the source failed
abbrev pub OnReadFault : Next → Type 0 → Type 0
OnReadFault (next.Message message) P = ⊤
OnReadFault (next.Bad kind at) P = ⊤
OnReadFault next.End P = ⊤
OnReadFault (next.Cut count) P = ⊤
OnReadFault next.ReadFault P = P
OnReadFault next.Memory P = ⊤

-- the count stays, but where a reader answers that the source failed
abbrev pub StaysUnlessReadFault : Next → ℕ → ℕ → Type 0
StaysUnlessReadFault (next.Message message) old new = new ≡ old
StaysUnlessReadFault (next.Bad kind at) old new = new ≡ old
StaysUnlessReadFault next.End old new = new ≡ old
StaysUnlessReadFault (next.Cut count) old new = new ≡ old
StaysUnlessReadFault next.ReadFault old new = ⊤
StaysUnlessReadFault next.Memory old new = new ≡ old
