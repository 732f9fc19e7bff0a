-- Each call goes on with the history of a connection, however its bytes are cut into pushes, and its messages into
-- visits.
use Rattle.std.specs.Prelude.{◌≡◌, ℕ, ◌<◌, ◌≤◌, Bool, false, List, [], ◌∷◌, length, take}
use Rattle.sm_http.specs.Messages.{Message, Rest, Messages}
use Rattle.sm_http.specs.Chains.{BeginWith}
use Rattle.sm_visits.specs.declared.arrivals.Opened.{Opened}
use Rattle.sm_visits.specs.declared.arrivals.Opened.TheVariants as opened
use Rattle.sm_visits.specs.Visits.{visit_limit, ArrivalsState, Ending, with_pushed, with_visit, with_given, Opens}
use Rattle.sm_visits.specs.Histories.{History, Told, Ended, EndBy, after_bytes, after_visit, after_messages, after_given}

-- bytes that come
abbrev pub ToldAtPush : Type 0
ToldAtPush = (h : History) (s : ArrivalsState) (bytes : List ℕ) → Told h s
    → Told (after_bytes h bytes) (with_pushed s bytes)

-- a visit that begins where nothing is open
abbrev pub ToldAtVisit : Type 0
ToldAtVisit = (h : History) (s : ArrivalsState) → s.opened ≡ 0 → Told h s → Told (after_visit h) (with_visit s)

-- bytes that are given
abbrev pub ToldAtGive : Type 0
ToldAtGive = (h : History) (s : ArrivalsState) (count : ℕ) → count ≤ s.opened → Told h s
    → Told (after_given h (take count s.waiting)) (with_given s count)

-- what follows an answer of `open`: one message more; or the last, with its message where it is one; or nothing
abbrev pub GoesOn : History → Bool → Opened → ArrivalsState → Type 0
GoesOn h has_ended opened.Message new = (message : Message) × Told (after_messages h (message ∷ [])) new
GoesOn h has_ended opened.Last new = (why : Ending) × (messages : List Message)
    × Ended (after_messages h messages) has_ended why new
GoesOn h has_ended opened.Nothing new = Told h new

abbrev pub ToldAtOpen : Type 0
ToldAtOpen = (h : History) (old new : ArrivalsState) (has_ended : Bool) (answer : Opened) → old.opened ≡ 0 → Told h old
    → Opens old has_ended answer new → GoesOn h has_ended answer new

-- Where nothing is open, what was given in a visit are whole messages, at most 50, and none only where no byte was. So
-- whoever reads these bytes alone finds these messages, and then the end.
abbrev pub VisitIsWhole : Type 0
VisitIsWhole = (h : History) (s : ArrivalsState) → s.opened ≡ 0 → Told h s
    → BeginWith h.gave h.here [] × Messages h.gave 0 h.here (Rest 0) × (length h.here ≤ visit_limit)
    × ((h.here ≡ []) → h.gave ≡ [])

-- And where the last is given, they are read to its end.
abbrev pub LastVisitIsRead : Type 0
LastVisitIsRead = (h : History) (s : ArrivalsState) (has_ended : Bool) (why : Ending) → s.opened ≡ 0
    → Ended h has_ended why s → EndBy why h.gave h.here [] × (length h.here ≤ visit_limit)

-- a message that is opened has bytes, so that something is open then
abbrev pub MessageHasBytes : Type 0
MessageHasBytes = (old new : ArrivalsState) (has_ended : Bool) → Opens old has_ended opened.Message new
    → 0 < new.opened

-- After the last nothing is opened, and what was told of it stays: bytes that come, where more might, ..
abbrev pub EndedAtPush : Type 0
EndedAtPush = (h : History) (s : ArrivalsState) (why : Ending) (bytes : List ℕ) → Ended h false why s
    → Ended (after_bytes h bytes) false why (with_pushed s bytes)

-- .. a visit that begins, ..
abbrev pub EndedAtVisit : Type 0
EndedAtVisit = (h : History) (s : ArrivalsState) (has_ended : Bool) (why : Ending) → Ended h has_ended why s
    → Ended h has_ended why (with_visit s)

-- .. bytes that are given ..
abbrev pub EndedAtGive : Type 0
EndedAtGive = (h : History) (s : ArrivalsState) (has_ended : Bool) (why : Ending) (count : ℕ) → count ≤ s.opened
    → Ended h has_ended why s → Ended (after_given h (take count s.waiting)) has_ended why (with_given s count)

-- .. and what `open` answers.
abbrev pub EndedAtOpen : Type 0
EndedAtOpen = (h : History) (old new : ArrivalsState) (has_ended asked : Bool) (why : Ending) (answer : Opened)
    → Ended h has_ended why old → Opens old asked answer new → (answer ≡ opened.Nothing) × (new ≡ old)
