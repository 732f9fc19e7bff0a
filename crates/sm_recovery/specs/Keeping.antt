-- The state of a disk, and what keeps it.
use Rattle.std.specs.Prelude.{◌≡◌}
use Rattle.sm_disk.specs.AllFiles.{LeavesBy}
use Rattle.sm_disk.specs.Sight.{Image, Sight}
use Rattle.sm_disk.specs.declared.disk.Disk.{Ghosts}
use Rattle.sm_record.specs.declared.base.Base.{Base}
use Rattle.sm_store.specs.Held.{Held, only, Recovered, SameHeld, HeldOr}
use Rattle.sm_recovery.specs.Lawful.{made_of}

-- the image recovers to a base and entries that make this state
abbrev pub HasState : Base → Image → Type 0
HasState state c = (h : Held) × Recovered h c × (made_of h ≡ state)

-- the state that the one image has, the other has
abbrev pub SameState : Image → Image → Type 0
SameState d c = (state : Base) → HasState state d → HasState state c

-- a crash at any moment since old leaves each image with the state that it had
abbrev pub StateStays : Sight → Sight → Type 0
StateStays old now = LeavesBy SameState SameState old now

-- each of these images recovers to this
abbrev pub AllHold : Held → Sight → Type 0
AllHold h now = (c : Image) → now.images c → Recovered h c

-- an image recovers to one base and list at most
abbrev pub OneHeld : Type 0
OneHeld = (c : Image) (a b : Held) → Recovered a c → Recovered b c → a ≡ b

-- ---- the laws

-- what keeps the base and the entries keeps the state
abbrev pub HeldKeepsState : Type 0
HeldKeepsState = (d c : Image) → SameHeld d c → SameState d c

-- and so does what may put that state as a base in their place
abbrev pub ReplacedKeepsState : Type 0
ReplacedKeepsState = OneHeld → (h : Held) (d c : Image) → Recovered h d → HeldOr h (only (made_of h)) d c
    → SameState d c

module _ {D : Type 0} (G : Ghosts D) where
  -- calls that keep the base and the entries
  abbrev pub RunsKeepState : Type 0
  RunsKeepState = (old now : D) → LeavesBy SameHeld SameHeld (G.sight old) (G.sight now)
      → StateStays (G.sight old) (G.sight now)

  -- calls that put the state as a base in the place of what each image has, whether they come to an end or not
  abbrev pub ReplacingKeepsState : Type 0
  ReplacingKeepsState = OneHeld → (h : Held) (old now : D) → AllHold h (G.sight old)
      → LeavesBy (HeldOr h (only (made_of h))) (HeldOr h (only (made_of h))) (G.sight old) (G.sight now)
      → StateStays (G.sight old) (G.sight now)

  -- calls one after the other
  abbrev pub KeepsJoin : Type 0
  KeepsJoin = (old mid now : D) → StateStays (G.sight old) (G.sight mid) → StateStays (G.sight mid) (G.sight now)
      → StateStays (G.sight old) (G.sight now)
