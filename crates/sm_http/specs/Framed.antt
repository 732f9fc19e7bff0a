-- A reply's bytes: RFC 9112, sections 4, 5 and 6.2; AWS JSON 1.1.
use Rattle.std.specs.Prelude.{◌≡◌, ◌<◌, MatchBool, Option, take, ℕ, ⊤, ◌==◌, if◌then◌else◌, List, ◌++◌, length, codes, decimal}
use Rattle.std.specs.Io.KnownBytes.{append_known}
use Rattle.sm_base.specs.Faults.{Rose}
use Rattle.sm_http.specs.declared.reply.Sent.{Sent}

-- the reason of a status
abbrev pub reason_of : ℕ → List ℕ
reason_of status =
    if status == 200 then codes "OK"
    else (if status == 413 then codes "Content Too Large"
    else (if status == 500 then codes "Internal Server Error"
    else (if status == 503 then codes "Service Unavailable" else codes "Bad Request")))

-- what stands before a body of this length
abbrev pub head_text : ℕ → ℕ → List ℕ
head_text status size =
    codes "HTTP/1.1 " ++ decimal status ++ codes " " ++ reason_of status
    ++ codes "\r\nContent-Type: application/x-amz-json-1.1\r\nContent-Length: " ++ decimal size ++ codes "\r\n\r\n"

-- the reply's bytes
abbrev pub framed : ℕ → List ℕ → List ℕ
framed status body = head_text status (length body) ++ body

-- What was sent of a text: all of it, or the sink failed within it. The sink's count stays where all of it was sent.
pub record Sends (sent : Sent) (text : List ℕ) (old new : Option (List ℕ)) (before now : ℕ) : Type 0 where
  pub bytes : new ≡ append_known old (take sent.taken text)
  pub whole : MatchBool sent.whole (sent.taken ≡ length text) ((sent.taken < length text) × Rose before now)
  pub no_other : MatchBool sent.whole (now ≡ before) ⊤
