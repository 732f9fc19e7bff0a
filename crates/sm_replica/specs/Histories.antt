-- A primary's history, what stands at its places, and what frames tell of it.
use Rattle.std.specs.Prelude.{⊤, ◌≡◌, ℕ, ◌+◌, ◌≤◌, List, [], ◌∷◌, length, take, drop}
use Rattle.sm_core.specs.Histories.{InTime}
use Rattle.sm_replication.specs.declared.frame.Frame.{Frame}
use Rattle.sm_replication.specs.declared.frame.Frame.TheVariants as frame
use Rattle.sm_model.specs.declared.entry.Entry.{Entry}
use Rattle.sm_record.specs.declared.base.Base.{Base}
use Rattle.sm_recovery.specs.Following.{origin, after_all, MayCome}
use Rattle.sm_replica.specs.declared.replica.Taken.{Taken}
use Rattle.sm_replica.specs.declared.replica.Taken.TheVariants.{At, Ahead, Broken, Promoted, Memory}
use Rattle.sm_replica.specs.Taking.{TakesFrame}

-- the entries are a legal history from before all entries
pub record IsHistory (history : List Entry) : Type 0 where
  pub come : MayCome origin history
  pub timely : InTime history

-- what so many first entries of the history make
abbrev pub point : List Entry → ℕ → Base
point history n = after_all origin (take n history)

-- the base is what so many first entries of the history make
pub record IsAt (history : List Entry) (n : ℕ) (base : Base) : Type 0 where
  pub within : n ≤ length history
  pub is : base ≡ point history n

-- the entries are those of the history from a place on, up to some other
pub record AreFrom (history : List Entry) (at : ℕ) (entries : List Entry) : Type 0 where
  pub within : at + length entries ≤ length history
  pub are : entries ≡ take (length entries) (drop at history)

-- the frame tells of the history
abbrev pub IsOf : List Entry → Frame → Type 0
IsOf history (frame.Entries at entries) = AreFrom history at entries
IsOf history (frame.Rows at base) = IsAt history at base

-- a frame, what a replica answered to it, and what it held then
pub record Step : Type 0 where
  pub frame : Frame
  pub answer : Taken
  pub after : Base

-- frames were taken one after the other
abbrev pub TakesAll : Base → List Step → Type 0
TakesAll old [] = ⊤
TakesAll old (step ∷ steps) = TakesFrame old step.frame step.answer step.after × TakesAll step.after steps

abbrev pub EachOf : List Entry → List Step → Type 0
EachOf history [] = ⊤
EachOf history (step ∷ steps) = IsOf history step.frame × EachOf history steps

-- what a replica answered that held so many entries and then so many
abbrev pub Says : ℕ → ℕ → Taken → Type 0
Says old new (At position) = position ≡ new
Says old new (Ahead position) = (position ≡ new) × (new ≡ old)
Says old new (Broken place) = ⊥
Says old new Promoted = ⊥
Says old new Memory = new ≡ old

-- After each frame the replica holds what so many first entries of the history make, which its answer tells, and never
-- fewer than before. No frame is broken.
abbrev pub Climbs : List Entry → ℕ → List Step → Type 0
Climbs history n [] = ⊤
Climbs history n (step ∷ steps) =
    (m : ℕ) × (n ≤ m) × IsAt history m step.after × Says n m step.answer × Climbs history m steps

-- what is held after the last frame
abbrev pub held_after : Base → List Step → Base
held_after old [] = old
held_after old (step ∷ steps) = held_after step.after steps

abbrev pub frames_in : List Step → List Frame
frames_in [] = []
frames_in (step ∷ steps) = step.frame ∷ frames_in steps

-- no frame was answered by lack of memory
abbrev pub HasMemory : List Step → Type 0
HasMemory [] = ⊤
HasMemory (step ∷ steps) = (step.answer ≡ Memory → ⊥) × HasMemory steps
