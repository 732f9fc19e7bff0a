-- What a worker does that takes rotation turns.
-- AWS Secrets Manager User Guide: "Lambda rotation functions", "Rotation schedules".
use Rattle.std.specs.Prelude.{◌≡◌, ⊤, ℕ, ◌≤◌, List, [], ◌∷◌, ◌++◌}
use Rattle.sm_lock.specs.Story.{Grows}
use Rattle.sm_pool.specs.declared.done.Done.{Done}
use Rattle.sm_pool.specs.Holds.{Hold, hold_shape}
use Rattle.sm_pool.specs.Rounds.{ComesToRest}
use Rattle.sm_pool.specs.Turns.{Passing, TurnDone, holds_of}
use Rattle.sm_rotation.specs.Vouched.{Replies}
use Rattle.sm_session.specs.Sessions.{Place, LocalState}
use Rattle.sm_account.specs.SeatTraces.{SeatTrace}
use Rattle.sm_workers.specs.Chains.{Chain, Waits}

-- a local state, and how often the rotator has failed
pub record Post : Type 0 where
  pub own : LocalState
  pub rotator : ℕ

-- what passes between a turn and the outside from one post to another
abbrev pub passing : Post → Post → Passing
passing from to = record {
  clock = record { before = from.own.readings; after = to.own.readings };
  words = record { before = from.own.drawn; after = to.own.drawn };
  words_count = record { before = from.own.random; after = to.own.random };
  rotator_count = record { before = from.rotator; after = to.rotator };
}

-- while it waits, its rotator does not fail either
pub record WaitsAt (seat : ℕ) (from to : Post) : Type 0 where
  pub own : Waits seat from.own to.own
  pub rotator : to.rotator ≡ from.rotator

-- no count of the random source, or of the rotator, falls
pub record NoneFellInTurns (from to : Post) : Type 0 where
  pub random : from.own.random ≤ to.own.random
  pub rotator : from.rotator ≤ to.rotator

module _ (replies : Replies) (place : Place) where
  -- a rotation turn of the seat, and what it did, from one post to another
  pub record RotationTurn : Type 0 where
    pub from : Post
    pub to : Post
    pub done : Done
    pub turn : TurnDone replies place.base (Grows (place.seat ∷ [])) place.seat (passing from to) from.own.seen
        to.own.seen done
    pub later : NoneFellInTurns from to

  -- the holds of turns, one after the other
  abbrev pub holds_in : List RotationTurn → List Hold
  holds_in [] = []
  holds_in (turn ∷ turns) = holds_of turn.turn.course ++ holds_in turns

  -- the last turn found nothing to do, or could not go on
  abbrev pub ComeToRest : List RotationTurn → Type 0
  ComeToRest [] = ⊥
  ComeToRest (turn ∷ []) = ComesToRest turn.done
  ComeToRest (turn ∷ next ∷ turns) = ComeToRest (next ∷ turns)

  -- The turns, one after the other, of which the last came to rest. Their holds are one trace of the seat.
  pub record RotationWorkerDid (from to : Post) : Type 0 where
    pub turns : List RotationTurn
    pub rests : ComeToRest turns
    pub chain : Chain (WaitsAt place.seat) (λ turn. turn.from) (λ turn. turn.to) from turns to
    pub seat_trace : SeatTrace hold_shape (Grows (place.seat ∷ [])) place.seat (λ hold. ⊤) from.own.seen
        (holds_in turns) to.own.seen
    pub later : NoneFellInTurns from to
