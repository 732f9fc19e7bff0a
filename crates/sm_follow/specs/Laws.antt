-- What holds of whole runs of a replica.
use Rattle.std.specs.Prelude.{◌≡◌, ◌≤◌, ℕ, ◌+◌, Bool, true, false, List, [], ◌∷◌, ◌++◌, length}
use Rattle.sm_disk.specs.declared.disk.Disk.{Ghosts}
use Rattle.sm_replication.specs.declared.frame.Frame.{Frame}
use Rattle.sm_replication.specs.declared.input.Input.{Input}
use Rattle.sm_replication.specs.declared.input.Input.TheVariants as read
use Rattle.sm_model.specs.declared.entry.Entry.{Entry}
use Rattle.sm_recovery.specs.Lawful.{IsLawful}
use Rattle.sm_principal.specs.declared.people.People.{People}
use Rattle.sm_record.specs.declared.base.Base.{Base}
use Rattle.sm_replica.specs.Histories.{AreFrom, IsAt, IsHistory}
use Rattle.sm_replica.specs.Laws.{AllOf}
use Rattle.sm_replica.specs.Shipping.{Ships}
use Rattle.sm_store.specs.Held.{Held, only}
use Rattle.sm_follow.specs.declared.end.End.{End}
use Rattle.sm_follow.specs.Disks.{FollowsOver, KeepsOnDisk}
use Rattle.sm_follow.specs.InputTurns.{Goes, InputTurn, InputTurnsOf, State, Sure}
use Rattle.sm_follow.specs.Outputs.{Outgoing, Position, Reply}
use Rattle.sm_follow.specs.Streams.{Around}

-- the frames among inputs
abbrev pub frames_in : List Input → List Frame
frames_in [] = []
frames_in (read.Frame frame ∷ others) = frame ∷ frames_in others
frames_in (read.Message bytes ∷ others) = frames_in others

-- what at least so many first entries of a history make, which the position tells
pub record Climbs (history : List Entry) (n : ℕ) (base : Base) : Type 0 where
  pub count : ℕ
  pub rises : n ≤ count
  pub prefix : IsAt history count base
  pub told : base.entries ≡ count

-- Inputs whose frames tell of a primary's history, lost, repeated and in any order, leave a replica that held what so
-- many first entries make with what so many make, and never fewer. The position, which is written after each frame, is
-- how many.
abbrev pub IsAPrefix : Type 0
IsAPrefix = (people : People) (history : List Entry) (n : ℕ) (old : State) (inputs : List Input)
    (turns : List InputTurn) (new : State) → IsHistory history → IsAt history n old.replica.base
    → AllOf history (frames_in inputs) → InputTurnsOf people old inputs turns new
    → Climbs history n new.replica.base

-- the disk holds this where the replica was not promoted, and else the replica's base alone
abbrev pub HoldsBy : Bool → Held → State → Type 0
HoldsBy false held state = state.held ≡ held
HoldsBy true held state = state.held ≡ only state.replica.base

-- only a promotion changes what the disk holds
abbrev pub KeepsOrPromotes : Type 0
KeepsOrPromotes = (people : People) (held : Held) (old : State) (inputs : List Input) (turns : List InputTurn)
    (new : State) → HoldsBy old.replica.promoted held old → InputTurnsOf people old inputs turns new
    → HoldsBy new.replica.promoted held new

-- Where a run leaves a replica that goes on, and its disk: the replica holds what the first entries of the history
-- make, as many as its position says. Until it was promoted each image of the disk recovers to what the opening took,
-- and from then on to the replica's base alone, which an account may be opened over.
pub record LeavesPrefix {D : Type 0} (G : Ghosts D) (history : List Entry) (held : Held) (state : State) (new : D)
    : Type 0 where
  pub prefix : IsAt history state.replica.base.entries state.replica.base
  pub kept : state.replica.promoted ≡ false → KeepsOnDisk (Sure held) (G.sight new)
  pub promoted : state.replica.promoted ≡ true → KeepsOnDisk (Sure (only state.replica.base)) (G.sight new)
  pub lawful : IsLawful (only state.replica.base)

abbrev pub RunsLeavePrefix : {D : Type 0} → Ghosts D → Type 0
RunsLeavePrefix {D} G = (people : People) (region : List ℕ) (end : End) (before after : Around) (old new : D)
    (run : FollowsOver G people region end before after old new) (history : List Entry) (state : State)
    → IsHistory history → AllOf history (frames_in run.followed.inputs) → run.onward ≡ Goes state
    → LeavesPrefix G history run.held state new

-- ---- where all frames of an account come in order

-- An account's base is what so many first entries of a history make, and its entries are the next ones. Its frames from
-- a replica's position, all of them in order and with messages between them, bring a replica that is not past the
-- account's end to that, where it is not promoted.
abbrev pub CatchesUp : Type 0
CatchesUp = (people : People) (history : List Entry) (n : ℕ) (base : Base) (entries : List Entry) (position : ℕ)
    (old : State) (inputs : List Input) (turns : List InputTurn) (new : State) → IsHistory history
    → IsAt history n base → AreFrom history n entries → IsAt history position old.replica.base
    → position ≤ n + length entries → Ships base entries position (frames_in inputs)
    → InputTurnsOf people old inputs turns new → new.replica.promoted ≡ false
    → IsAt history (n + length entries) new.replica.base

-- the position that an output tells, and else the one that was told before
abbrev pub position_in : ℕ → Outgoing → ℕ
position_in before (Position at) = at
position_in before (Reply answer) = before

-- the position that was written last, and where none was, the one from before
abbrev pub position_told : ℕ → List InputTurn → ℕ
position_told before [] = before
position_told before (turn ∷ turns) = position_told (position_in before turn.output) turns

-- Inputs of which some told of the history, lost, repeated and in any order; and then all frames of an account came in
-- order, with messages between them, from the position that was written last, which was not past the account's end.
pub record EndsShipped (history : List Entry) (base : Base) (entries : List Entry) (inputs : List Input)
    (turns : List InputTurn) : Type 0 where
  pub earlier : List Input
  pub shipped : List Input
  pub front : List InputTurn
  pub back : List InputTurn
  pub inputs_are : inputs ≡ earlier ++ shipped
  pub turns_are : turns ≡ front ++ back
  pub each : length front ≡ length earlier
  pub told : AllOf history (frames_in earlier)
  pub within : position_told 0 front ≤ base.entries + length entries
  pub ships : Ships base entries (position_told 0 front) (frames_in shipped)

-- a run over such inputs that ends where the replica goes on, not promoted, leaves it at the account's end
abbrev pub RunsCatchUp : {D : Type 0} → Ghosts D → Type 0
RunsCatchUp {D} G = (people : People) (region : List ℕ) (end : End) (before after : Around) (old new : D)
    (run : FollowsOver G people region end before after old new) (history : List Entry) (n : ℕ) (base : Base)
    (entries : List Entry) (state : State) → IsHistory history → IsAt history n base → AreFrom history n entries
    → EndsShipped history base entries run.followed.inputs run.followed.turns → run.onward ≡ Goes state
    → state.replica.promoted ≡ false → IsAt history (n + length entries) state.replica.base
