-- A session: the messages of one connection, answered at an account behind a lock, under one seat of it.
use Rattle.std.specs.Prelude.{◌≡◌, ℕ, ◌≤◌, List, [], ◌∷◌, ◌++◌, length, map, Option, Result, ⊤}
use Rattle.std.specs.Io.KnownBytes.{append_known}
use Rattle.sm_base.specs.Faults.{Rose}
use Rattle.sm_base.specs.declared.moment.Moment.{Moment}
use Rattle.sm_model.specs.declared.entry.Mark.{Mark}
use Rattle.sm_model.specs.declared.why.Why.{Why}
use Rattle.sm_account.specs.Handled.{HandledAs, marks_of}
use Rattle.sm_account.specs.History.{by_seat}
use Rattle.sm_account.specs.Outcome.{Question, outcome}
use Rattle.sm_account.specs.States.{Base, state_at}
use Rattle.sm_account.specs.declared.handled.Handled.{Handled}
use Rattle.sm_http.specs.Messages.{Message}
use Rattle.sm_lock.specs.Story.{Grows}
use Rattle.sm_principal.specs.declared.people.People.{People}
use Rattle.sm_reply.specs.Shown.{Answered}
use Rattle.sm_account.specs.SeatTraces.{History, NoGap, Shape, SeatTrace}
use Rattle.sm_session.specs.declared.ended.Ended.{Ended}
use Rattle.sm_session.specs.declared.trace.TraceItem.{TraceItem}
use Rattle.sm_session.specs.Answer.{Asked, heard}
use Rattle.sm_session.specs.Endings.{Sides, Streamed}
use Rattle.sm_session.specs.Told.{Told, Growth, nothing_told, told_both}
use Rattle.sm_session.specs.Turns.{Turn, Untouched, IsTurn}

-- what the account behind the lock was built over, and the seat
pub record Place : Type 0 where
  pub base : Base
  pub seat : ℕ

-- the history that the seat has seen, what its clock and its random source told, and how often the source failed
pub record LocalState : Type 0 where
  pub seen : History
  pub readings : Option (List ℕ)
  pub drawn : Option (List ℕ)
  pub random : ℕ

-- that, and the two sides of the connection
pub record Around : Type 0 where
  pub sides : Sides
  pub own : LocalState

-- a message's turn: the history at which it stands, what it brought, and how the count of the random source grew
pub record MessageTurn : Type 0 where
  pub message : Message
  pub before : History
  pub told : Told
  pub reply : Answered
  pub marks : List Mark
  pub random : Growth

-- without its place
abbrev pub brought : MessageTurn → Turn
brought turn = record { told = turn.told; reply = turn.reply; marks = turn.marks }

-- as a thing that a seat does
abbrev pub turn_shape : Shape MessageTurn
turn_shape = record { before = λ turn. turn.before; marks = λ turn. turn.marks }

-- A turn is its message's, at the history where it stands. Where the disk failed a fault stands there: the account's
-- type keeps that these are no more than the disk's count rose by. Where the random source failed its count rose.
abbrev pub IsRight : People → Base → MessageTurn → Type 0
IsRight people base turn = IsTurn ⊤ (Rose turn.random.before turn.random.after) base turn.before
    (heard people turn.message) (brought turn)

-- the history behind a turn
abbrev pub after_turn : ℕ → MessageTurn → History
after_turn seat turn = turn.before ++ by_seat seat turn.marks

-- the history that the seat has seen after turns
abbrev pub seen_after : ℕ → History → List MessageTurn → History
seen_after seat from [] = from
seen_after seat from (turn ∷ turns) = seen_after seat (after_turn seat turn) turns

-- a turn that did not reach the account stands at the history that the seat has seen
abbrev pub StandStill : ℕ → History → List MessageTurn → Type 0
StandStill seat from [] = ⊤
StandStill seat from (turn ∷ turns) =
    (Untouched (brought turn) → turn.before ≡ from) × StandStill seat (after_turn seat turn) turns

-- the count of the random source grew from turn to turn, and never between them
abbrev pub CountsOn : ℕ → List MessageTurn → ℕ → Type 0
CountsOn from [] to = to ≡ from
CountsOn from (turn ∷ turns) to =
    (turn.random.before ≡ from) × (from ≤ turn.random.after) × CountsOn turn.random.after turns to

-- what was told for turns, one after the other
abbrev pub told_of : List MessageTurn → Told
told_of [] = nothing_told
told_of (turn ∷ turns) = told_both turn.told (told_of turns)

-- a trace tells the reading of a turn that has one, and else 0
abbrev pub reading_of : List ℕ → ℕ
reading_of [] = 0
reading_of (reading ∷ readings) = reading

-- what a trace has of a turn with this place and status
abbrev pub item_at : ℕ → Told → ℕ → TraceItem
item_at position told status = record {
  position = position;
  moment = record { 0 = reading_of told.readings };
  drawn = told.drawn;
  status = status;
}

abbrev pub item_of : MessageTurn → TraceItem
item_of turn = item_at (length turn.before) turn.told turn.reply.status

-- What a session does for these people. The messages that were answered are those of the stream; each reply is right at
-- its place, and the seat left no mark but theirs. Every reading and every drawn byte is used once, in order.
pub record Serves (people : People) (place : Place) (old new : Around) (ended : Ended) (items : List TraceItem)
    : Type 0 where
  pub turns : List MessageTurn
  pub seat_trace : SeatTrace turn_shape (Grows (place.seat ∷ [])) place.seat (IsRight people place.base) old.own.seen
      turns new.own.seen
  pub still : StandStill place.seat old.own.seen turns
  pub readings : new.own.readings ≡ append_known old.own.readings (told_of turns).readings
  pub drawn : new.own.drawn ≡ append_known old.own.drawn (told_of turns).drawn
  pub random : CountsOn old.own.random turns new.own.random
  pub stream : Streamed ended old.sides new.sides (map (λ turn. turn.message) turns) (map (λ turn. turn.reply) turns)
  pub trace : items ≡ map item_of turns

-- One message's turn, which asks for this or is refused so: what it brought, and where. `Gap` holds from the history
-- that the seat had seen to that at which the turn stands, and `Fault` where the disk failed.
pub record TakesTurnBy (Gap : History → History → Type 0) (Fault : Type 0) (place : Place) (wanted : Result Asked Why)
    (old new : LocalState) (reply : Answered) : Type 0 where
  pub before : History
  pub told : Told
  pub marks : List Mark
  pub gap : Gap old.seen before
  pub still : Untouched (record { told = told; reply = reply; marks = marks }) → before ≡ old.seen
  pub right : IsTurn Fault (Rose old.random new.random) place.base before wanted
      (record { told = told; reply = reply; marks = marks })
  pub stands : new.seen ≡ before ++ by_seat place.seat marks
  pub readings : new.readings ≡ append_known old.readings told.readings
  pub drawn : new.drawn ≡ append_known old.drawn told.drawn
  pub later : old.random ≤ new.random

-- Behind a lock: others alone added to the history before it, a disk's fault has no cause but its mark, and a trace has
-- this of it.
pub record TakesTurn (place : Place) (wanted : Result Asked Why) (old new : LocalState) (reply : Answered)
    (item : TraceItem) : Type 0 where
  pub taken : TakesTurnBy (Grows (place.seat ∷ [])) ⊤ place wanted old new reply
  pub traced : item ≡ item_at (length taken.before) taken.told reply.status

-- By an account's only caller: nothing lies before it, and this holds where the disk failed.
abbrev pub TakesTurnAlone : Type 0 → Place → Result Asked Why → LocalState → LocalState → Answered → Type 0
TakesTurnAlone Fault place wanted old new reply = TakesTurnBy NoGap Fault place wanted old new reply

-- One hold of the lock by a seat, from the history that it had seen to that which it has seen then: the question was
-- answered at a history that others alone had added to, and its marks stand behind that.
pub record Holds (base : Base) (seat : ℕ) (question : Question) (from to : History) (handled : Handled) : Type 0 where
  pub before : History
  pub gap : Grows (seat ∷ []) from before
  pub answers : HandledAs handled (outcome (state_at base before) question)
  pub stands : to ≡ before ++ by_seat seat (marks_of handled (outcome (state_at base before) question))
