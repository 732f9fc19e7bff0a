-- What came on a connection since it began, and what became of it.
use Rattle.std.specs.Prelude.{◌≡◌, ℕ, ◌+◌, ◌<◌, ◌≤◌, Bool, true, false, List, [], ◌++◌, length, take, drop, ⊤}
use Rattle.sm_http.specs.Messages.{Message, Closing, Bad, Rest, Messages}
use Rattle.sm_http.specs.Chains.{BeginWith}
use Rattle.sm_visits.specs.Visits.{visit_limit, connection_limit, ArrivalsState, Ending, ByClose, ByCount, ByFault, ByEnd}

-- All bytes that came; those that were given before this visit, and the messages that were opened before it; and those
-- that were given and that were opened in it.
pub record History : Type 0 where
  pub came : List ℕ
  pub earlier : List ℕ
  pub passed : List Message
  pub gave : List ℕ
  pub here : List Message

-- nothing came
abbrev pub nothing_happened : History
nothing_happened = record { came = []; earlier = []; passed = []; gave = []; here = [] }

-- more bytes came
abbrev pub after_bytes : History → List ℕ → History
after_bytes h bytes = record h { came = h.came ++ bytes }

-- another visit began
abbrev pub after_visit : History → History
after_visit h = record h { earlier = h.earlier ++ h.gave; passed = h.passed ++ h.here; gave = []; here = [] }

-- these messages were opened
abbrev pub after_messages : History → List Message → History
after_messages h messages = record h { here = h.here ++ messages }

-- these bytes were given
abbrev pub after_given : History → List ℕ → History
after_given h bytes = record h { gave = h.gave ++ bytes }

-- what was opened in this visit: what was given, and what is open
abbrev pub visit_bytes : History → ArrivalsState → List ℕ
visit_bytes h s = h.gave ++ take s.opened s.waiting

-- The history of a connection before its last: each byte that came was given once or waits, and what was opened before
-- this visit and in it are whole messages, one after the other, with nothing behind them.
pub record Told (h : History) (s : ArrivalsState) : Type 0 where
  pub bytes : h.came ≡ h.earlier ++ h.gave ++ s.waiting
  pub opened : s.opened ≤ length s.waiting
  pub first : BeginWith h.earlier h.passed []
  pub visit : BeginWith (visit_bytes h s) h.here []
  pub in_visit : s.in_visit ≡ length h.here
  pub few : s.in_visit ≤ visit_limit
  pub given : s.given ≡ length h.passed + length h.here
  pub below : s.given < connection_limit
  pub more : s.over ≡ false

-- The bytes are these messages, and end so, with none behind what was opened where the end is no message; or, where the
-- last is the 1,000th, they begin with these, and others are behind.
abbrev pub EndBy : Ending → List ℕ → List Message → List ℕ → Type 0
EndBy ByClose bytes messages behind = Messages bytes 0 messages Closing
EndBy ByCount bytes messages behind = BeginWith bytes messages behind
EndBy (ByFault kind) bytes messages behind = (place : ℕ) × Messages bytes 0 messages (Bad kind place)
EndBy ByEnd bytes messages behind = (count : ℕ) × Messages bytes 0 messages (Rest count) × (behind ≡ [])

-- the last comes so after this many messages
abbrev pub IsDue : Ending → ℕ → Bool → Type 0
IsDue ByClose count has_ended = ⊤
IsDue ByCount count has_ended = count ≡ connection_limit
IsDue (ByFault kind) count has_ended = ⊤
IsDue ByEnd count has_ended = has_ended ≡ true

-- The history of a connection whose last was opened: the messages that were opened on it are those of all bytes that
-- came, and in this visit those of the bytes that were opened in it, and both end in the same way.
pub record Ended (h : History) (has_ended : Bool) (why : Ending) (s : ArrivalsState) : Type 0 where
  pub bytes : h.came ≡ h.earlier ++ h.gave ++ s.waiting
  pub opened : s.opened ≤ length s.waiting
  pub first : BeginWith h.earlier h.passed []
  pub visit : EndBy why (visit_bytes h s) h.here []
  pub whole : EndBy why h.came (h.passed ++ h.here) (drop s.opened s.waiting)
  pub few : length h.here ≤ visit_limit
  pub most : length h.passed + length h.here ≤ connection_limit
  pub due : IsDue why (length h.passed + length h.here) has_ended
  pub over : s.over ≡ true
