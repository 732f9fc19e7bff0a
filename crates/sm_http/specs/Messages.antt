-- The messages of a stream: RFC 9112, sections 6 and 9.3, in the profile of this server.
use Rattle.std.specs.Prelude.{◌≡◌, ℕ, ◌+◌, ◌-◌, ◌<◌, ◌≤◌, ◌⊎◌, Bool, false, MatchBool, ◌||◌, ◌==◌, List, [], ◌∷◌, ◌++◌, length, take, Option, Some, None, IsSome, codes}
use Rattle.std.specs.Str.{str_eq_ignore_ascii_case}
use Rattle.httparse.specs.Grammar.{RequestHead}
use Rattle.sm_base.specs.declared.bad_kind.BadKind.{BadKind}
use Rattle.sm_base.specs.declared.bad_kind.BadKind.TheVariants.{HeadTooLong, Head, Chunked, Length, BodyTooLong}
use Rattle.sm_http.specs.Heads.{head_limit, body_limit, head_length, IsHead, NameValue, fields_of, field_of, body_length}

-- a whole message
pub record Message : Type 0 where
  pub method : List ℕ
  pub path : List ℕ
  pub fields : List NameValue
  pub closing : Bool
  pub body : List ℕ

-- the Connection field asks for the end of the stream
abbrev pub asks_to_close : Option (List ℕ) → Bool
asks_to_close None = false
asks_to_close (Some value) = str_eq_ignore_ascii_case value (codes "close")

-- a message ends the stream where it is of HTTP/1.0, or its Connection field says close
abbrev pub is_closing : RequestHead → Bool
is_closing head = head.minor == 0 || asks_to_close (field_of (codes "connection") (fields_of head))

-- the message of a head and a body
abbrev pub message_of : RequestHead → List ℕ → Message
message_of head body = record {
  method = head.method;
  path = head.target;
  fields = fields_of head;
  closing = is_closing head;
  body = body;
}

-- the bytes begin with this head, whose text this is
pub record Begins (bytes text : List ℕ) (head : RequestHead) : Type 0 where
  pub ends : head_length bytes ≡ Some (length text)
  pub front : take (length text) bytes ≡ text
  pub reads : IsHead text head

-- the field that a chunked body would have
abbrev pub transfer_encoding : RequestHead → Option (List ℕ)
transfer_encoding head = field_of (codes "transfer-encoding") (fields_of head)

-- the bytes are this message, and then the rest
pub record IsMessage (bytes : List ℕ) (message : Message) (rest : List ℕ) : Type 0 where
  pub text : List ℕ
  pub head : RequestHead
  pub begins : Begins bytes text head
  pub whole : transfer_encoding head ≡ None
  pub sized : body_length (fields_of head) ≡ Some (length message.body)
  pub fits : length message.body ≤ body_limit
  pub parts : bytes ≡ text ++ message.body ++ rest
  pub is : message ≡ message_of head message.body

-- some head begins the bytes, and P holds of it and of how long its text is
abbrev pub BeginsWith : List ℕ → (RequestHead → ℕ → Type 0) → Type 0
BeginsWith bytes P = (text : List ℕ) × (head : RequestHead) × Begins bytes text head × P head (length text)

-- a fault stands where a message would begin: the first that there is
abbrev pub StartsBadly : List ℕ → BadKind → Type 0
StartsBadly bytes HeadTooLong = (head_length bytes ≡ None) × (head_limit ≤ length bytes)
StartsBadly bytes Head = (n : ℕ) × (head_length bytes ≡ Some n)
    × ((head : RequestHead) → IsHead (take n bytes) head → ⊥)
StartsBadly bytes Chunked = BeginsWith bytes (λ head _. IsSome (transfer_encoding head))
StartsBadly bytes Length = BeginsWith bytes (λ head _. (transfer_encoding head ≡ None)
    × (body_length (fields_of head) ≡ None))
StartsBadly bytes BodyTooLong = BeginsWith bytes (λ head _. (transfer_encoding head ≡ None)
    × (n : ℕ) × (body_length (fields_of head) ≡ Some n) × (body_limit < n))

-- no message is whole yet and there is no fault: the head's end, or a part of the body, is still to come
abbrev pub IsPartial : List ℕ → Type 0
IsPartial bytes =
    ((head_length bytes ≡ None) × (length bytes < head_limit))
    ⊎ BeginsWith bytes (λ head used. (transfer_encoding head ≡ None)
    × (n : ℕ) × (body_length (fields_of head) ≡ Some n) × (n ≤ body_limit) × (length bytes < used + n))

-- how the messages of a stream end: after one that closes it, at a fault in the place of a message, or with bytes that
-- are no whole message
pub data End : Type 0 where
  Closing : End
  Bad : BadKind → ℕ → End
  Rest : ℕ → End

-- what follows the whole messages, from the byte numbered at
abbrev pub Ends : List ℕ → ℕ → End → Type 0
Ends bytes at Closing = ⊥
Ends bytes at (Bad kind place) = (place ≡ at) × StartsBadly bytes kind
Ends bytes at (Rest n) = (n ≡ length bytes) × IsPartial bytes

-- the bytes, which begin at the byte numbered at, are these whole messages and this end; no byte after a message that
-- closes the stream is a message
abbrev pub Messages : List ℕ → ℕ → List Message → End → Type 0
Messages bytes at [] end = Ends bytes at end
Messages bytes at (message ∷ messages) end =
    (rest : List ℕ) × IsMessage bytes message rest
    × MatchBool message.closing
    ((messages ≡ []) × (end ≡ Closing))
    (Messages rest (at + (length bytes - length rest)) messages end)
