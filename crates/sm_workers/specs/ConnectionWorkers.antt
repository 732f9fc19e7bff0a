-- What a connection worker does.
use Rattle.std.specs.Prelude.{◌≡◌, ℕ, ◌≤◌, Bool, true, false, List, [], ◌∷◌, map, Option}
use Rattle.sm_base.specs.Faults.{Rose}
use Rattle.sm_io.specs.Edge.{NoneLeft}
use Rattle.sm_lock.specs.Story.{Grows}
use Rattle.sm_principal.specs.declared.people.People.{People}
use Rattle.sm_session.specs.Endings.{Sides}
use Rattle.sm_session.specs.Sessions.{Place, LocalState, IsRight, turn_shape}
use Rattle.sm_account.specs.SeatTraces.{SeatTrace}
use Rattle.sm_workers.specs.declared.worker.ConnEnd.{ConnEnd}
use Rattle.sm_workers.specs.Chains.{Chain, Waits}
use Rattle.sm_workers.specs.Known.{told_ahead, told_behind}
use Rattle.sm_workers.specs.Visits.{Visit, turns_in}

-- what an edge tells, and how often it has failed
pub record EdgeState (K : Type 0) : Type 0 where
  pub left : Option (List K)
  pub handed : Option (List K)
  pub back : Option (List (K × ConnEnd))
  pub faults : ℕ

-- Where it gave up, the edge's count rose. Where it did not, no connection is left.
abbrev pub EndsConnectionWorker : {K : Type 0} → Bool → EdgeState K → EdgeState K → Type 0
EndsConnectionWorker true old new = Rose old.faults new.faults
EndsConnectionWorker false old new = NoneLeft new.left

module _ {K : Type 0} (sides : K → Sides) (people : People) (place : Place) where
  -- The visits of a connection worker, one after the other. They are of the first connections that were left, in their
  -- order; each of these was handed out and came back. The turns of all visits are one trace of the seat.
  pub record ConnectionWorkerDid (old new : EdgeState K) (from to : LocalState) : Type 0 where
    pub visits : List (Visit sides people place)
    pub left : old.left ≡ told_ahead (map (λ visit. visit.conn) visits) new.left
    pub handed : new.handed ≡ told_behind old.handed (map (λ visit. visit.conn) visits)
    pub back : new.back ≡ told_behind old.back (map (λ visit. (visit.came, visit.note)) visits)
    pub chain : Chain (Waits place.seat) (λ visit. visit.from) (λ visit. visit.to) from visits to
    pub seat_trace : SeatTrace turn_shape (Grows (place.seat ∷ [])) place.seat (IsRight people place.base) from.seen
        (turns_in sides people place visits) to.seen
    pub later : old.faults ≤ new.faults
    pub random_later : from.random ≤ to.random
