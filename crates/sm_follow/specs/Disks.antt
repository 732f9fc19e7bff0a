-- A replica beside its disk.
use Rattle.std.specs.Prelude.{◌≡◌, ◌⊎◌, ◌≤◌, ⊤, false, List, [], ℕ}
use Rattle.sm_base.specs.Faults.{Rose}
use Rattle.sm_base.specs.declared.limits.TheConstants.{JOURNAL_LIMIT}
use Rattle.sm_disk.specs.Sight.{Image, Sight}
use Rattle.sm_disk.specs.declared.disk.Disk.{Ghosts}
use Rattle.sm_replication.specs.declared.input.Input.{Input}
use Rattle.sm_journal.specs.declared.format.Format.{Format}
use Rattle.sm_principal.specs.declared.people.People.{People}
use Rattle.sm_recovery.specs.Following.{origin}
use Rattle.sm_store.specs.Files.{HoldsAs}
use Rattle.sm_store.specs.Openings.{ListsStay, ReadsActive}
use Rattle.sm_store.specs.Stores.{IsOpened, disk_of, is_unsure, limit_of}
use Rattle.sm_store.specs.Held.{Held, Recovered}
use Rattle.sm_follow.specs.declared.end.End.{End}
use Rattle.sm_follow.specs.declared.end.End.TheVariants as ends
use Rattle.sm_follow.specs.declared.follower.Follower.{Follower}
use Rattle.sm_follow.specs.declared.follower.Turned.{Turned}
use Rattle.sm_follow.specs.declared.follower.Turned.TheVariants as turned
use Rattle.sm_follow.specs.Outputs.{Outgoing, IsWritten}
use Rattle.sm_follow.specs.Streams.{Around, Followed}
use Rattle.sm_follow.specs.InputTurns.{State, Kept, Sure, Either, Onward, Goes, Fails, Lacks, InputTurnOf, kept_of}

-- each image of the disk recovers to what is kept
abbrev pub KeepsOnDisk : Kept → Sight → Type 0
KeepsOnDisk (Sure h) now = (c : Image) → now.images c → Recovered h c
KeepsOnDisk (Either a b) now = (c : Image) → now.images c → Recovered a c ⊎ Recovered b c

-- a fact where the disk failed in a promotion
abbrev pub IfFails : Onward → Type 0 → Type 0
IfFails (Goes state) P = ⊤
IfFails (Fails kept) P = P
IfFails (Lacks kept) P = ⊤

-- before all frames
abbrev pub first_state : List ℕ → Held → State
first_state region held =
    record { replica = record { region = region; base = origin; promoted = false }; held = held }

-- A run of a replica in a region over a disk: what its opening took, the stream, and what stands on the disk then.
pub record FollowsOver {D : Type 0} (G : Ghosts D) (people : People) (region : List ℕ) (end : End)
    (before after : Around) (old new : D) : Type 0 where
  pub opened : D
  pub format : Format
  pub held : Held
  pub found : ReadsActive (HoldsAs format held) (G.sight old)
  pub stays : ListsStay (G.sight old) (G.sight opened)
  pub onward : Onward
  pub followed : Followed people (first_state region held) end before after onward
  pub on_disk : KeepsOnDisk (kept_of onward) (G.sight new)
  pub cause : IfFails onward (Rose (G.faults old) (G.faults new))
  pub later : G.faults old ≤ G.faults new

module _ {D : Type 0} {G : Ghosts D} where
  -- nothing of its disk is unsure
  pub record IsSure (follower : Follower D G) : Type 0 where
    pub sure : is_unsure follower.store ≡ false
    pub under : limit_of follower.store ≡ JOURNAL_LIMIT

  -- the replica of this state, and the store of what its disk holds
  pub record Stands (state : State) (follower : Follower D G) : Type 0 where
    pub replica : follower.replica ≡ state.replica
    pub store : IsOpened JOURNAL_LIMIT state.held follower.store

  abbrev pub disk_in : Follower D G → D
  disk_in follower = disk_of follower.store

-- how a run ends behind an input that ends it
abbrev pub ends_with : End → Kept → Onward → Type 0
ends_with ends.DiskFault kept onward = onward ≡ Fails kept
ends_with ends.Memory kept onward = onward ≡ Lacks kept
ends_with other kept onward = ⊥

-- What became of an input, whatever of it is written, where P holds of the output and of how it goes on: the replica
-- goes on, or the run ends.
abbrev pub ComesBy : {D : Type 0} {G : Ghosts D} → (Outgoing → Onward → Type 0) → ℕ → Turned D G → Type 0
ComesBy P faults (turned.On next said) =
    (state : State) × Stands state next × ((output : Outgoing) → IsWritten said output → P output (Goes state))
ComesBy {D} {G} P faults (turned.Ends end disk said) =
    (kept : Kept) × (onward : Onward) × ends_with end kept onward × KeepsOnDisk kept (G.sight disk)
    × IfFails onward (Rose faults (G.faults disk))
    × ((output : Outgoing) → IsWritten said output → P output onward)
ComesBy P faults (turned.Lacks disk) = ⊥

-- the turn of an input for which this was told, as it is written
abbrev pub turn_by : People → State → Input → List ℕ → Outgoing → Onward → Type 0
turn_by people old input readings output onward =
    InputTurnOf people old input (record { readings = readings; output = output }) onward

-- What an input came to. Where there was no memory to take a frame nothing is written.
abbrev pub ComesTo : {D : Type 0} {G : Ghosts D} → People → State → Input → List ℕ → ℕ → Turned D G → Type 0
ComesTo people old input readings faults (turned.On next said) =
    ComesBy (turn_by people old input readings) faults (turned.On next said)
ComesTo {D} {G} people old input readings faults (turned.Ends end disk said) =
    ComesBy {G = G} (turn_by people old input readings) faults (turned.Ends end disk said)
ComesTo {D} {G} people old input readings faults (turned.Lacks disk) =
    KeepsOnDisk (Sure old.held) (G.sight disk) × (readings ≡ [])

-- the disk's count did not fall
abbrev pub IsLater : {D : Type 0} {G : Ghosts D} → ℕ → Turned D G → Type 0
IsLater {D} {G} faults (turned.On next said) = faults ≤ G.faults (disk_in next)
IsLater {D} {G} faults (turned.Ends end disk said) = faults ≤ G.faults disk
IsLater {D} {G} faults (turned.Lacks disk) = faults ≤ G.faults disk

abbrev pub IfOn : {D : Type 0} {G : Ghosts D} → Turned D G → (Follower D G → Type 0) → Type 0
IfOn (turned.On next said) P = P next
IfOn (turned.Ends end disk said) P = ⊤
IfOn (turned.Lacks disk) P = ⊤
