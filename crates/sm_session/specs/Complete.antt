-- What a session gives where nothing failed.
use Rattle.std.specs.Prelude.{◌≡◌, ℕ, List, [], ◌∷◌, take, map, ⊤}
use Rattle.sm_base.specs.Faults.{Steady}
use Rattle.sm_model.specs.declared.entry.Mark.TheVariants.{Fault}
use Rattle.sm_account.specs.States.{Base}
use Rattle.sm_http.specs.Messages.{Message, End, Messages}
use Rattle.sm_principal.specs.declared.people.People.{People}
use Rattle.sm_session.specs.declared.ended.Ended.{Ended}
use Rattle.sm_session.specs.declared.ended.Ended.TheVariants.{Memory}
use Rattle.sm_session.specs.declared.trace.TraceItem.{TraceItem}
use Rattle.sm_session.specs.Answer.{heard}
use Rattle.sm_session.specs.Sessions.{Place, Around, MessageTurn, brought, Serves}
use Rattle.sm_session.specs.Streams.{message_limit}
use Rattle.sm_session.specs.Turns.{IsTurn}

-- neither side of the connection failed, nor the random source
pub record NoneFailed (old new : Around) : Type 0 where
  pub source : Steady old.sides.source new.sides.source
  pub sink : Steady old.sides.sink new.sides.sink
  pub random : Steady old.own.random new.own.random

-- no turn left a fault of the disk
abbrev pub NoFaults : List MessageTurn → Type 0
NoFaults [] = ⊤
NoFaults (turn ∷ turns) = (turn.marks ≡ Fault ∷ [] → ⊥) × NoFaults turns

-- each turn got the model's reply, or the one where memory ran out
abbrev pub AreModels : People → Base → List MessageTurn → Type 0
AreModels people base [] = ⊤
AreModels people base (turn ∷ turns) =
    IsTurn ⊥ ⊥ base turn.before (heard people turn.message) (brought turn) × AreModels people base turns

-- the turns are those of the messages of the bytes that were read, of the first that are answered at most
abbrev pub AreFirst : List ℕ → List MessageTurn → Type 0
AreFirst input turns = (all : List Message) (end : End) → Messages input 0 all end
    → take message_limit all ≡ map (λ turn. turn.message) turns

-- Where nothing failed, the disk included, and the session did not end where memory ran out, each message that is to be
-- answered got the model's reply or the one where memory ran out.
module _ {people : People} {place : Place} {old new : Around} {ended : Ended} {items : List TraceItem} where
  abbrev pub Completes : Serves people place old new ended items → Type 0
  Completes session = NoneFailed old new → (ended ≡ Memory → ⊥) → NoFaults session.turns
      → AreModels people place.base session.turns × AreFirst session.stream.input session.turns
