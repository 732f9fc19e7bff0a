-- What a reader gives one after the other, and what all that it read are.
use Rattle.std.specs.Prelude.{◌≡◌, ℕ, ◌-◌, ◌<◌, min, false, MatchBool, List, [], ◌∷◌, ◌++◌, length, Option, None, ⊤}
use Rattle.std.specs.Io.KnownBytes.{prepend_known}
use Rattle.sm_http.specs.declared.answer.Next.{Next}
use Rattle.sm_http.specs.declared.answer.Next.TheVariants as next
use Rattle.sm_http.specs.Messages.{Message, IsMessage, End, Closing, Bad, Rest, Messages}
use Rattle.sm_http.specs.Reading.{ReaderState, content, last_place, Reads}

-- the bytes begin with these messages, none of which closes the stream, and the others are ahead
abbrev pub BeginWith : List ℕ → List Message → List ℕ → Type 0
BeginWith bytes [] ahead = bytes ≡ ahead
BeginWith bytes (message ∷ messages) ahead = (rest : List ℕ) × IsMessage bytes message rest × (message.closing ≡ false)
    × BeginWith rest messages ahead

-- a reader gave these messages, and the bytes that it read in all are they and those that it holds
pub record Gave (read : List ℕ) (messages : List Message) (reader : ReaderState) : Type 0 where
  pub begin : BeginWith read messages reader.ahead
  pub place : reader.at ≡ min (length read - length reader.ahead) last_place
  pub more : reader.ended ≡ None

-- a reader that has read nothing
abbrev pub unread : ReaderState
unread = record { ahead = []; at = 0; ended = None }

-- What the next answer says of all the bytes that were read, after these messages: a message goes on, or is the last
-- one; any other answer tells the end, or is for a failure of the outside, with no message whole that was not given.
abbrev pub Continues : List ℕ → List Message → Next → ReaderState → Type 0
Continues read messages (next.Message message) new = MatchBool message.closing
    (Messages read 0 (messages ++ content message ∷ []) Closing)
    (Gave read (messages ++ content message ∷ []) new)
Continues read messages (next.Bad kind at) new = (place : ℕ) × Messages read 0 messages (Bad kind place)
    × (at ≡ min place last_place)
Continues read messages next.End new = Messages read 0 messages (Rest 0)
Continues read messages (next.Cut count) new = Messages read 0 messages (Rest count) × (0 < count)
Continues read messages next.ReadFault new = Messages read 0 messages (Rest (length new.ahead))
Continues read messages next.Memory new = ⊤

-- each answer of a reader goes on from those before it, however the source cuts its bytes
abbrev pub GoesOn : Type 0
GoesOn = (read : List ℕ) (messages : List Message) (old new : ReaderState) (answer : Next)
    (before after : Option (List ℕ)) → Gave read messages old → Reads old answer new before after
    → (taken : List ℕ) × (before ≡ prepend_known taken after) × Continues (read ++ taken) messages answer new

-- the end is told whatever bytes follow
abbrev pub IsFinal : End → Type 0
IsFinal Closing = ⊤
IsFinal (Bad kind place) = ⊤
IsFinal (Rest n) = ⊥

-- the messages that end so are those of the bytes with any more behind them
abbrev pub StaysRead : Type 0
StaysRead = (bytes more : List ℕ) (at : ℕ) (messages : List Message) (end : End) → IsFinal end
    → Messages bytes at messages end → Messages (bytes ++ more) at messages end

-- bytes are one list of messages at most, and end in one way
abbrev pub HasOneReading : Type 0
HasOneReading = (bytes : List ℕ) (at : ℕ) (messages others : List Message) (end other : End)
    → Messages bytes at messages end → Messages bytes at others other → (messages ≡ others) × (end ≡ other)
