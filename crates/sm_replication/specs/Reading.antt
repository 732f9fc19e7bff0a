-- What a reader of frames holds, and what it answers.
use Rattle.std.specs.Prelude.{⊤, ◌≡◌, ◌⊎◌, ℕ, ◌+◌, ◌-◌, ◌^◌, ◌<◌, min, List, [], ◌++◌, length, take, Option, Some, None, MatchOption}
use Rattle.std.specs.Io.KnownBytes.{prepend_known}
use Rattle.sm_replication.specs.declared.extent.Extent.TheVariants.{Whole, Over, Open}
use Rattle.sm_replication.specs.declared.input.Input.{Input}
use Rattle.sm_replication.specs.declared.reader.Found.{Found}
use Rattle.sm_replication.specs.declared.reader.Found.TheVariants as found
use Rattle.sm_replication.specs.declared.reader.NextFrame.{NextFrame}
use Rattle.sm_replication.specs.declared.reader.NextFrame.TheVariants as next
use Rattle.sm_replication.specs.declared.reader.Stop.{Stop}
use Rattle.sm_replication.specs.declared.reader.Stop.TheVariants as stop
use Rattle.sm_replication.specs.Extents.{extent}
use Rattle.sm_replication.specs.Frames.{IsFrame, frame_bytes}

-- the greatest number of a byte that is told: each byte past it has this number
abbrev pub last_place : ℕ
last_place = 2 ^ 64 - 1

-- the number of the byte so many behind a byte
abbrev pub passed : ℕ → ℕ → ℕ
passed at n = min (at + n) last_place

-- no frame is whole yet, and no limit is passed
abbrev pub IsPartial : List ℕ → Type 0
IsPartial bytes = extent bytes ≡ Open

-- no frame begins the bytes: a limit is passed, or they are whole by their lengths and no frame's
abbrev pub StartsBadly : List ℕ → Type 0
StartsBadly bytes = (extent bytes ≡ Over)
    ⊎ ((n : ℕ) × (extent bytes ≡ Whole n) × ((i : Input) → IsFrame i → ¬ (frame_bytes i ≡ take n bytes)))

-- what a reader holds: the bytes that it read and did not use, the number of the first of them in the stream, and why
-- it gives no more frames, where it gives none
pub record FrameReaderState : Type 0 where
  pub ahead : List ℕ
  pub at : ℕ
  pub ended : Option Stop

-- the answer of a reader that stopped
abbrev pub stopped : Stop → NextFrame
stopped (stop.Bad at) = next.Bad at
stopped stop.End = next.End
stopped (stop.Cut count) = next.Cut count
stopped stop.ReadFault = next.ReadFault
stopped stop.Memory = next.Memory

-- Where a reader stops at the bytes that are ahead, whose first has this number: a fault stands there, or the stream
-- ends there, or within a frame, or the source fails before a frame is whole. Want of memory may come at any bytes.
abbrev pub StopsAt : List ℕ → ℕ → Stop → Type 0
StopsAt bytes at (stop.Bad place) = (place ≡ at) × StartsBadly bytes
StopsAt bytes at stop.End = bytes ≡ []
StopsAt bytes at (stop.Cut count) = (count ≡ length bytes) × (0 < count) × IsPartial bytes
StopsAt bytes at stop.ReadFault = IsPartial bytes
StopsAt bytes at stop.Memory = ⊤

-- What was found in the bytes, whose first has this number: a frame, which takes so many of them, and those behind it
-- are left; or none, and all of them are.
abbrev pub Finds : List ℕ → ℕ → Found → List ℕ → Type 0
Finds bytes at (found.Input i used) left = IsFrame i × (bytes ≡ frame_bytes i ++ left)
    × (used ≡ length bytes - length left)
Finds bytes at (found.Stop why) left = StopsAt bytes at why × (left ≡ bytes)

-- what was found in the bytes that were there and those that were taken behind them
abbrev pub FindsMore : List ℕ → ℕ → Found → List ℕ → Option (List ℕ) → Option (List ℕ) → Type 0
FindsMore bytes at answer left before after = (taken : List ℕ) × (before ≡ prepend_known taken after)
    × Finds (bytes ++ taken) at answer left

-- the reader stopped, and keeps all bytes
abbrev pub Stops : FrameReaderState → List ℕ → Stop → FrameReaderState → Type 0
Stops old bytes why new = StopsAt bytes old.at why × (new ≡ record { ahead = bytes; at = old.at; ended = Some why })

-- What a reader answers of the bytes that are ahead then, and what it holds after it. A frame is at the front of them,
-- and what is behind it stays.
abbrev pub Answers : FrameReaderState → List ℕ → NextFrame → FrameReaderState → Type 0
Answers old bytes (next.Input i) new =
    (rest : List ℕ) × IsFrame i × (bytes ≡ frame_bytes i ++ rest)
    × (new ≡ record { ahead = rest; at = passed old.at (length bytes - length rest); ended = None })
Answers old bytes (next.Bad at) new = Stops old bytes (stop.Bad at) new
Answers old bytes next.End new = Stops old bytes stop.End new
Answers old bytes (next.Cut count) new = Stops old bytes (stop.Cut count) new
Answers old bytes next.ReadFault new = Stops old bytes stop.ReadFault new
Answers old bytes next.Memory new = Stops old bytes stop.Memory new

-- What was left of the source begins with what the reader took, and the answer is by that and the bytes that it held. A
-- reader that gave another answer than a frame gives it again.
abbrev pub Reads : FrameReaderState → NextFrame → FrameReaderState → Option (List ℕ) → Option (List ℕ) → Type 0
Reads old answer new before after = MatchOption old.ended
    ((taken : List ℕ) × (before ≡ prepend_known taken after) × Answers old (old.ahead ++ taken) answer new)
    (λ why. (answer ≡ stopped why) × (new ≡ old))

-- a fact where a reader answers that the stream ended
abbrev pub OnStreamEnd : NextFrame → Type 0 → Type 0
OnStreamEnd (next.Input i) P = ⊤
OnStreamEnd (next.Bad at) P = ⊤
OnStreamEnd next.End P = P
OnStreamEnd (next.Cut count) P = P
OnStreamEnd next.ReadFault P = ⊤
OnStreamEnd next.Memory P = ⊤

-- a fact where a reader answers that the source failed
abbrev pub OnReadFault : NextFrame → Type 0 → Type 0
OnReadFault (next.Input i) P = ⊤
OnReadFault (next.Bad at) P = ⊤
OnReadFault next.End P = ⊤
OnReadFault (next.Cut count) P = ⊤
OnReadFault next.ReadFault P = P
OnReadFault next.Memory P = ⊤

-- the count stays, but where a reader answers that the source failed
abbrev pub StaysUnlessReadFault : NextFrame → ℕ → ℕ → Type 0
StaysUnlessReadFault (next.Input i) old new = new ≡ old
StaysUnlessReadFault (next.Bad at) old new = new ≡ old
StaysUnlessReadFault next.End old new = new ≡ old
StaysUnlessReadFault (next.Cut count) old new = new ≡ old
StaysUnlessReadFault next.ReadFault old new = ⊤
StaysUnlessReadFault next.Memory old new = new ≡ old

-- a fact where the stream ended
abbrev pub OnStopEnd : Stop → Type 0 → Type 0
OnStopEnd (stop.Bad at) P = ⊤
OnStopEnd stop.End P = P
OnStopEnd (stop.Cut count) P = P
OnStopEnd stop.ReadFault P = ⊤
OnStopEnd stop.Memory P = ⊤

-- a fact where the source failed
abbrev pub OnStopFault : Stop → Type 0 → Type 0
OnStopFault (stop.Bad at) P = ⊤
OnStopFault stop.End P = ⊤
OnStopFault (stop.Cut count) P = ⊤
OnStopFault stop.ReadFault P = P
OnStopFault stop.Memory P = ⊤

-- a fact about why no frame was found
abbrev pub IfStopped : Found → (Stop → Type 0) → Type 0
IfStopped (found.Input i used) P = ⊤
IfStopped (found.Stop why) P = P why

-- the count stays, but where the source failed
abbrev pub StaysUnlessStopFault : Stop → ℕ → ℕ → Type 0
StaysUnlessStopFault (stop.Bad at) old new = new ≡ old
StaysUnlessStopFault stop.End old new = new ≡ old
StaysUnlessStopFault (stop.Cut count) old new = new ≡ old
StaysUnlessStopFault stop.ReadFault old new = ⊤
StaysUnlessStopFault stop.Memory old new = new ≡ old

-- the count stays, but where no frame was found since the source failed
abbrev pub StaysUnlessFoundFault : Found → ℕ → ℕ → Type 0
StaysUnlessFoundFault (found.Input i used) old new = new ≡ old
StaysUnlessFoundFault (found.Stop why) old new = StaysUnlessStopFault why old new
