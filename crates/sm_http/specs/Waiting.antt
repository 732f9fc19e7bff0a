-- How the wait for a head ended.
use Rattle.std.specs.Prelude.{◌≡◌, ℕ, ◌-◌, ◌<◌, ◌≤◌, ◌==◌, ◌||◌, List, ◌++◌, length, map, Option, None, Some, codes, ⊤}
use Rattle.std.specs.Io.KnownBytes.{prepend_known}
use Rattle.httparse.specs.Spans.{header_bytes, span_bytes}
use Rattle.sm_base.specs.declared.bad_kind.BadKind.TheVariants.{HeadTooLong}
use Rattle.sm_http.specs.declared.answer.Message.{Message}
use Rattle.sm_http.specs.declared.answer.Stop.{Stop}
use Rattle.sm_http.specs.declared.answer.Stop.TheVariants as stop
use Rattle.sm_http.specs.declared.owned.Parts.{Parts}
use Rattle.sm_http.specs.declared.reader.Sought.{Sought}
use Rattle.sm_http.specs.declared.reader.Sought.TheVariants.{Head, TooLong, End, Failed, Memory}
use Rattle.sm_http.specs.declared.reader.Found.{Found}
use Rattle.sm_http.specs.declared.reader.Found.TheVariants as found
use Rattle.sm_http.specs.Heads.{head_length, head_limit, values_of, first_of}
use Rattle.sm_http.specs.Messages.{asks_to_close, IsMessage, StartsBadly}
use Rattle.sm_http.specs.Reading.{pair_of, content, StopsAt}

-- no head ends in the bytes, and it may still come
abbrev pub LacksHead : List ℕ → Type 0
LacksHead bytes = (head_length bytes ≡ None) × (length bytes < head_limit)

-- what was found of the head at the front of the bytes
abbrev pub IsSought : List ℕ → Sought → Type 0
IsSought bytes (Head n) = (head_length bytes ≡ Some n) × (n ≤ length bytes)
IsSought bytes TooLong = StartsBadly bytes HeadTooLong
IsSought bytes End = LacksHead bytes
IsSought bytes Failed = LacksHead bytes
IsSought bytes Memory = LacksHead bytes

-- a fact where the source has nothing left
abbrev pub OnSoughtEnd : Sought → Type 0 → Type 0
OnSoughtEnd (Head n) P = ⊤
OnSoughtEnd TooLong P = ⊤
OnSoughtEnd End P = P
OnSoughtEnd Failed P = ⊤
OnSoughtEnd Memory P = ⊤

-- a fact where the source failed
abbrev pub OnSoughtFailed : Sought → Type 0 → Type 0
OnSoughtFailed (Head n) P = ⊤
OnSoughtFailed TooLong P = ⊤
OnSoughtFailed End P = ⊤
OnSoughtFailed Failed P = P
OnSoughtFailed Memory P = ⊤

-- the count stays, but where the source failed
abbrev pub StaysUnlessSoughtFailed : Sought → ℕ → ℕ → Type 0
StaysUnlessSoughtFailed (Head n) old new = new ≡ old
StaysUnlessSoughtFailed TooLong old new = new ≡ old
StaysUnlessSoughtFailed End old new = new ≡ old
StaysUnlessSoughtFailed Failed old new = ⊤
StaysUnlessSoughtFailed Memory old new = new ≡ old

-- the message owns what the parts cover
pub record IsCopy (parts : Parts) (at : ℕ) (message : Message) : Type 0 where
  pub method : message.method ≡ span_bytes parts.text.now parts.spans.method
  pub path : message.path ≡ span_bytes parts.text.now parts.spans.path
  pub fields : map pair_of message.fields ≡ map (header_bytes parts.text.now) parts.headers.now
  pub closing : message.closing ≡ ((parts.spans.version == 0) || asks_to_close (first_of
      (values_of (codes "connection") (map (header_bytes parts.text.now) parts.headers.now))))
  pub body : message.body ≡ parts.body.now
  pub place : message.at ≡ at

-- What was found in the bytes, whose first has this number: a message, which takes so many of them, and those behind
-- it are left; or no message, and all of them are.
abbrev pub Finds : List ℕ → ℕ → Found → List ℕ → Type 0
Finds bytes at (found.Message message used) left = IsMessage bytes (content message) left × (message.at ≡ at)
    × (used ≡ length bytes - length left)
Finds bytes at (found.Stop why) left = StopsAt bytes at why × (left ≡ bytes)

-- what was found in the bytes that were there and those that were taken behind them
abbrev pub FindsMore : List ℕ → ℕ → Found → List ℕ → Option (List ℕ) → Option (List ℕ) → Type 0
FindsMore bytes at answer left before after = (taken : List ℕ) × (before ≡ prepend_known taken after)
    × Finds (bytes ++ taken) at answer left

-- a fact where the stream ended
abbrev pub OnStopEnd : Stop → Type 0 → Type 0
OnStopEnd (stop.Bad kind at) P = ⊤
OnStopEnd stop.End P = P
OnStopEnd (stop.Cut count) P = P
OnStopEnd stop.ReadFault P = ⊤
OnStopEnd stop.Memory P = ⊤

-- a fact where the source failed
abbrev pub OnStopFault : Stop → Type 0 → Type 0
OnStopFault (stop.Bad kind at) P = ⊤
OnStopFault stop.End P = ⊤
OnStopFault (stop.Cut count) P = ⊤
OnStopFault stop.ReadFault P = P
OnStopFault stop.Memory P = ⊤

-- a fact about why no message was found
abbrev pub IfStopped : Found → (Stop → Type 0) → Type 0
IfStopped (found.Message message used) P = ⊤
IfStopped (found.Stop why) P = P why

-- the count stays, but where the source failed
abbrev pub StaysUnlessStopFault : Stop → ℕ → ℕ → Type 0
StaysUnlessStopFault (stop.Bad kind at) old new = new ≡ old
StaysUnlessStopFault stop.End old new = new ≡ old
StaysUnlessStopFault (stop.Cut count) old new = new ≡ old
StaysUnlessStopFault stop.ReadFault old new = ⊤
StaysUnlessStopFault stop.Memory old new = new ≡ old

-- the count stays, but where no message was found since the source failed
abbrev pub StaysUnlessFoundFault : Found → ℕ → ℕ → Type 0
StaysUnlessFoundFault (found.Message message used) old new = new ≡ old
StaysUnlessFoundFault (found.Stop why) old new = StaysUnlessStopFault why old new
