-- What the reader of messages answers, beside the messages that the bytes have.
use Rattle.std.specs.Prelude.{◌≡◌, ℕ, ◌≤◌, List, length, take, drop, map, All, None, Some, option_copied, codes}
use Rattle.httparse.specs.declared.spans.HeaderSpan.{HeaderSpan}
use Rattle.httparse.specs.declared.spans.RequestSpans.{RequestSpans}
use Rattle.httparse.specs.Grammar.{RequestHead}
use Rattle.httparse.specs.Spans.{header_bytes, span_bytes, IsHeaderWithin, IsWithin}
use Rattle.sm_http.specs.declared.message.MessageView.{MessageView}
use Rattle.sm_http.specs.declared.message.Front.{Front}
use Rattle.sm_http.specs.declared.message.Front.TheVariants.{Whole, Bad, Partial}
use Rattle.sm_http.specs.declared.request.HeadRead.{HeadRead}
use Rattle.sm_http.specs.declared.request.HeadRead.TheVariants as head
use Rattle.sm_http.specs.Heads.{body_limit, fields_of, field_of, values_of, first_of, length_of}
use Rattle.sm_http.specs.Messages.{Message, Begins, IsMessage, StartsBadly, IsPartial}

-- the parts that the server looks at are those of the message
pub record Shows (message : Message) (seen : MessageView) : Type 0 where
  pub method : seen.method.now ≡ message.method
  pub path : seen.path.now ≡ message.path
  pub target : option_copied seen.target ≡ field_of (codes "x-amz-target") message.fields
  pub closing : seen.closing ≡ message.closing
  pub body : seen.body.now ≡ message.body

-- the answer is what stands at the front of the bytes
abbrev pub IsFront : List ℕ → Front → Type 0
IsFront bytes (Whole seen used) = (message : Message) × IsMessage bytes message (drop used bytes) × Shows message seen
    × (used ≤ length bytes)
IsFront bytes (Bad kind) = StartsBadly bytes kind
IsFront bytes Partial = IsPartial bytes

-- a head begins the bytes, and the spans and headers cover its parts in its text
pub record HasHead (bytes text : List ℕ) (spans : RequestSpans) (headers : List HeaderSpan) : Type 0 where
  pub head : RequestHead
  pub begins : Begins bytes text head
  pub len : spans.len ≡ length text
  pub method : span_bytes text spans.method ≡ head.method
  pub path : span_bytes text spans.path ≡ head.target
  pub minor : spans.version ≡ head.minor
  pub fields : map (header_bytes text) headers ≡ fields_of head
  pub method_within : IsWithin (length text) spans.method
  pub path_within : IsWithin (length text) spans.path
  pub headers_within : All (IsHeaderWithin (length text)) headers

-- a head begins the bytes whose body has this size, which is no fault
pub record IsWholeHead (bytes text : List ℕ) (spans : RequestSpans) (headers : List HeaderSpan) (size : ℕ)
    : Type 0 where
  pub head : HasHead bytes text spans headers
  pub whole : first_of (values_of (codes "transfer-encoding") (map (header_bytes text) headers)) ≡ None
  pub sized : length_of (values_of (codes "content-length") (map (header_bytes text) headers)) ≡ Some size
  pub fits : size ≤ body_limit

-- what the fields of a head say
abbrev pub AreFieldsRead : List ℕ → List ℕ → RequestSpans → List HeaderSpan → HeadRead → Type 0
AreFieldsRead bytes text spans headers (head.Whole found size) = (found ≡ spans)
    × IsWholeHead bytes text spans headers size
AreFieldsRead bytes text spans headers (head.Bad kind) = StartsBadly bytes kind

-- what a head says, whose fields stand in the first places of the room
abbrev pub IsHeadRead : List ℕ → List ℕ → List HeaderSpan → HeadRead → Type 0
IsHeadRead bytes text room (head.Whole spans size) = IsWholeHead bytes text spans (take spans.headers room) size
    × (spans.headers ≤ length room)
IsHeadRead bytes text room (head.Bad kind) = StartsBadly bytes kind
