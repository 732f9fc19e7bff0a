-- A visit: the session of one connection that an edge handed out.
use Rattle.std.specs.Prelude.{◌≤◌, List, [], ◌∷◌, ◌++◌}
use Rattle.sm_principal.specs.declared.people.People.{People}
use Rattle.sm_session.specs.Complete.{Completes}
use Rattle.sm_session.specs.Endings.{Sides}
use Rattle.sm_session.specs.Sessions.{Place, LocalState, Around, MessageTurn, Serves}
use Rattle.sm_workers.specs.declared.worker.ConnEnd.{ConnEnd}

-- a local state with the two sides of a connection
abbrev pub around : Sides → LocalState → Around
around sides own = record { sides = sides; own = own }

-- no count of a connection, or of the random source, falls
pub record NoneFellInVisit (old new : Around) : Type 0 where
  pub source : old.sides.source ≤ new.sides.source
  pub sink : old.sides.sink ≤ new.sides.sink
  pub random : old.own.random ≤ new.own.random

module _ {K : Type 0} (sides : K → Sides) (people : People) (place : Place) where
  -- A connection as it was handed out and as it came back, with its note, and what its session did between two
  -- local states of the seat.
  pub record Visit : Type 0 where
    pub conn : K
    pub came : K
    pub note : ConnEnd
    pub from : LocalState
    pub to : LocalState
    pub session : Serves people place (around (sides conn) from) (around (sides came) to) note.ended note.trace.items
    pub complete : Completes session
    pub later : NoneFellInVisit (around (sides conn) from) (around (sides came) to)

  -- the turns of visits, one after the other
  abbrev pub turns_in : List Visit → List MessageTurn
  turns_in [] = []
  turns_in (visit ∷ visits) = visit.session.turns ++ turns_in visits
