-- What waits on a connection, and how it is opened and given: RFC 9112, sections 9.3 and 9.6.
use Rattle.std.specs.Prelude.{◌≡◌, ℕ, ◌+◌, ◌-◌, ◌<◌, ◌≤◌, ◌⊎◌, Bool, true, false, List, [], ◌++◌, length, drop}
use Rattle.sm_base.specs.declared.bad_kind.BadKind.{BadKind}
use Rattle.sm_http.specs.Messages.{Message, IsMessage, StartsBadly, IsPartial}
use Rattle.sm_visits.specs.declared.arrivals.Opened.{Opened}
use Rattle.sm_visits.specs.declared.arrivals.Opened.TheVariants as opened

-- the most messages of a visit, and of a connection
abbrev pub visit_limit : ℕ
visit_limit = 50

abbrev pub connection_limit : ℕ
connection_limit = 1000

-- What arrived on a connection and was not given yet, and how many bytes at its front are open; how many messages were
-- opened in this visit, and how many on the connection; and whether the last was opened.
pub record ArrivalsState : Type 0 where
  pub waiting : List ℕ
  pub opened : ℕ
  pub in_visit : ℕ
  pub given : ℕ
  pub over : Bool

-- a connection on which nothing arrived
abbrev pub nothing_arrived : ArrivalsState
nothing_arrived = record { waiting = []; opened = 0; in_visit = 0; given = 0; over = false }

-- bytes came behind what waits
abbrev pub with_pushed : ArrivalsState → List ℕ → ArrivalsState
with_pushed s bytes = record s { waiting = s.waiting ++ bytes }

-- a visit began
abbrev pub with_visit : ArrivalsState → ArrivalsState
with_visit s = record s { in_visit = 0 }

-- so many bytes were given
abbrev pub with_given : ArrivalsState → ℕ → ArrivalsState
with_given s count = record s { waiting = drop count s.waiting; opened = s.opened - count }

-- a message was opened, behind which this rest waits, and whether as the last
abbrev pub with_message : ArrivalsState → List ℕ → Bool → ArrivalsState
with_message s rest over = record s {
  opened = length s.waiting - length rest;
  in_visit = s.in_visit + 1;
  given = s.given + 1;
  over = over;
}

-- all that waits was opened, as the last
abbrev pub with_all : ArrivalsState → ArrivalsState
with_all s = record s { opened = length s.waiting; over = true }

-- what the last is: a message that closes the connection, its 1,000th, a fault, or what no message follows
pub data Ending : Type 0 where
  ByClose : Ending
  ByCount : Ending
  ByFault : BadKind → Ending
  ByEnd : Ending

-- the last was not opened yet, and the visit has not had its messages
abbrev pub MayOpen : ArrivalsState → Type 0
MayOpen s = (s.over ≡ false) × (s.in_visit < visit_limit)

-- what is opened as the last stands at the front of what waits
abbrev pub OpensLast : ArrivalsState → Bool → Ending → ArrivalsState → Type 0
OpensLast old has_ended ByClose new = (message : Message) × (rest : List ℕ) × IsMessage old.waiting message rest
    × (message.closing ≡ true) × (new ≡ with_message old rest true)
OpensLast old has_ended ByCount new = (message : Message) × (rest : List ℕ) × IsMessage old.waiting message rest
    × (message.closing ≡ false) × (old.given + 1 ≡ connection_limit) × (new ≡ with_message old rest true)
OpensLast old has_ended (ByFault kind) new = StartsBadly old.waiting kind × (new ≡ with_all old)
OpensLast old has_ended ByEnd new = IsPartial old.waiting × (has_ended ≡ true) × (new ≡ with_all old)

-- why nothing is opened: the last was; or else the visit has had its messages; or else none is whole, and more may come
abbrev pub OpensNothing : ArrivalsState → Bool → Type 0
OpensNothing s has_ended = (s.over ≡ true) ⊎ ((s.over ≡ false) × (visit_limit ≤ s.in_visit))
    ⊎ (MayOpen s × IsPartial s.waiting × (has_ended ≡ false))

-- what is opened, by what waits and whether more may come behind it
abbrev pub Opens : ArrivalsState → Bool → Opened → ArrivalsState → Type 0
Opens old has_ended opened.Message new = MayOpen old × (message : Message) × (rest : List ℕ)
    × IsMessage old.waiting message rest × (message.closing ≡ false) × (old.given + 1 < connection_limit)
    × (new ≡ with_message old rest false)
Opens old has_ended opened.Last new = MayOpen old × (why : Ending) × OpensLast old has_ended why new
Opens old has_ended opened.Nothing new = OpensNothing old has_ended × (new ≡ old)

-- the answer of `open` is determined, and so is what it leaves
abbrev pub OpensInOneWay : Type 0
OpensInOneWay = (old new other : ArrivalsState) (has_ended : Bool) (answer second : Opened)
    → Opens old has_ended answer new → Opens old has_ended second other → (answer ≡ second) × (new ≡ other)
