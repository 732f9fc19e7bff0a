-- Replies that are read from a server: RFC 9112, sections 4, 5 and 6.
use Rattle.std.specs.Prelude.{◌≡◌, ℕ, ◌+◌, ◌<◌, ◌≤◌, ◌==◌, IsTrue, if◌then◌else◌, List, [], ◌∷◌, All, length, drop, take, map, Option, Some, None, codes}
use Rattle.std.specs.Io.KnownBytes.{Consumes}
use Rattle.std.specs.Str.Parse.{digits_value}
use Rattle.httparse.specs.Grammar.{ResponseHead, ReadsResponse, print_response, status_code}
use Rattle.httparse.specs.Spans.{IsHeaderWithin, header_bytes, name_and_value}
use Rattle.httparse.specs.declared.spans.HeaderSpan.{HeaderSpan}
use Rattle.httparse.specs.declared.spans.ResponseSpans.{ResponseSpans}
use Rattle.sm_agent.specs.declared.received.Received.{Received}
use Rattle.sm_agent.specs.declared.received.Received.TheVariants.{Whole, Partial, Bad}
use Rattle.sm_agent.specs.declared.received.TheConstants.{BODY_LIMIT, FIELD_LIMIT, HEAD_LIMIT}
use Rattle.sm_agent.specs.Upstreams.{is_status}
use Rattle.sm_http.specs.Heads.{NameValue, is_length, values_of}

-- the fields of a reply's head
abbrev pub fields_of : ResponseHead → List NameValue
fields_of head = map name_and_value head.fields

-- the length that the values of Content-Length give: there is one value, of 1 to 10 decimal digits
abbrev pub length_of : List (List ℕ) → Option ℕ
length_of [] = None
length_of (value ∷ []) = if is_length value then Some (digits_value 10 value) else None
length_of (value ∷ other ∷ values) = None

-- the length of a body: none is known where the reply has a Transfer-Encoding
abbrev pub length_unless : List (List ℕ) → Option ℕ → Option ℕ
length_unless [] size = size
length_unless (encoding ∷ encodings) size = None

abbrev pub length_in : List NameValue → Option ℕ
length_in fields = length_of (values_of (codes "content-length") fields)

abbrev pub body_length : List NameValue → Option ℕ
body_length fields = length_unless (values_of (codes "transfer-encoding") fields) (length_in fields)

abbrev pub head_size : ResponseHead → ℕ
head_size head = length (print_response head)

-- The bytes begin with a head that an answer may have: its status is one of a reply, it has at most 64 fields and
-- 16,384 bytes, and it says that its body has this length, of 524,288 bytes at most.
pub record IsReplyHead (bytes : List ℕ) (head : ResponseHead) (size : ℕ) : Type 0 where
  pub reads : ReadsResponse bytes head (drop (head_size head) bytes)
  pub few : length head.fields ≤ FIELD_LIMIT
  pub short : head_size head ≤ HEAD_LIMIT
  pub status : IsTrue (is_status (status_code head))
  pub size_is : body_length (fields_of head) ≡ Some size
  pub size_short : size ≤ BODY_LIMIT

-- a whole reply: its status, and where its body begins and ends
pub record IsReply (bytes : List ℕ) (status start end : ℕ) : Type 0 where
  pub head : ResponseHead
  pub size : ℕ
  pub is_head : IsReplyHead bytes head size
  pub status_is : status ≡ status_code head
  pub start_is : start ≡ head_size head
  pub end_is : end ≡ start + size
  pub whole : end ≤ length bytes

-- no reply is whole
abbrev pub NoneWhole : List ℕ → Type 0
NoneWhole bytes = (head : ResponseHead) (size : ℕ) → IsReplyHead bytes head size
    → length bytes < head_size head + size

-- no reply begins there
abbrev pub NoneBegins : List ℕ → Type 0
NoneBegins bytes = (head : ResponseHead) (size : ℕ) → IsReplyHead bytes head size → ⊥

abbrev pub Receives : List ℕ → Received → Type 0
Receives bytes (Whole status start end) = IsReply bytes status start end
Receives bytes Partial = NoneWhole bytes
Receives bytes Bad = NoneBegins bytes

-- ---- what the parser answers

-- the parts of a head at the front of the bytes, and its fields
pub record IsHeadAt (bytes : List ℕ) (spans : ResponseSpans) (headers : List HeaderSpan) (head : ResponseHead) : Type 0
  where
    pub reads : ReadsResponse bytes head (drop spans.len bytes)
    pub len : spans.len ≡ head_size head
    pub code : spans.code ≡ status_code head
    pub fields : map (header_bytes bytes) headers ≡ fields_of head

-- The parser found a head with these parts, and each head at the front that has at most 64 fields has them.
pub record IsFoundHead (bytes : List ℕ) (spans : ResponseSpans) (headers : List HeaderSpan) : Type 0 where
  pub head : ResponseHead
  pub found : IsHeadAt bytes spans headers head
  pub few : length headers ≤ FIELD_LIMIT
  pub within : All (IsHeaderWithin (length bytes)) headers
  pub len_fits : spans.len ≤ length bytes
  pub only : (other : ResponseHead) (rest : List ℕ) → ReadsResponse bytes other rest
      → length other.fields ≤ FIELD_LIMIT → IsHeadAt bytes spans headers other

-- ---- what is read

-- the body of a reply that begins the bytes
pub record HasReply (bytes : List ℕ) (status : ℕ) (body : List ℕ) : Type 0 where
  pub start : ℕ
  pub end : ℕ
  pub is : IsReply bytes status start end
  pub body_is : start + length body ≡ end
  pub at : body ≡ take (length body) (drop start bytes)

-- a reply that begins the bytes that a reader gave
pub record ReadsReply (old new : Option (List ℕ)) (status : ℕ) (body : List ℕ) : Type 0 where
  pub bytes : List ℕ
  pub consumed : Consumes old new bytes
  pub has : HasReply bytes status body

-- a reply that some reader gave
abbrev pub WasRead : ℕ → List ℕ → Type 0
WasRead status body = (old : Option (List ℕ)) × (new : Option (List ℕ)) × ReadsReply old new status body
