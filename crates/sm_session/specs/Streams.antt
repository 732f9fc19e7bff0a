-- The messages of a stream that are answered, and how it ends.
use Rattle.std.specs.Prelude.{◌≡◌, ℕ, ◌<◌, ◌⊎◌, List, length}
use Rattle.sm_http.specs.Chains.{BeginWith}
use Rattle.sm_http.specs.Messages.{Message, End, Closing, Bad, Rest, Messages}

-- how many messages are answered at most
abbrev pub message_limit : ℕ
message_limit = 1000

-- the bytes begin with these messages, the last of which may close the stream
abbrev pub StartWith : List ℕ → List Message → Type 0
StartWith bytes messages = ((rest : List ℕ) × BeginWith bytes messages rest) ⊎ Messages bytes 0 messages Closing

-- the stream ends after a whole message
abbrev pub EndsWell : End → Type 0
EndsWell Closing = Unit {0}
EndsWell (Bad kind at) = ⊥
EndsWell (Rest n) = n ≡ 0

-- the bytes are whole messages, fewer than are answered at most
abbrev pub AreWhole : List ℕ → Type 0
AreWhole bytes = (messages : List Message) × (end : End) × Messages bytes 0 messages end × EndsWell end
    × (length messages < message_limit)
