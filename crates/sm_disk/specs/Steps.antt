-- What a call does to a file, and what a crash may do to it until the file is synced.
use Rattle.std.specs.Prelude.{◌≡◌, ◌≢◌, ◌⊎◌, ℕ, ◌+◌, ◌≤◌, min, max, List, ◌++◌, length, take, drop}
use Rattle.sm_disk.specs.Sight.{Image, Sight}

-- new is old with this piece at this place
abbrev pub Holds : ℕ → List ℕ → List ℕ → List ℕ → Type 0
Holds at piece old new = new ≡ take at old ++ piece ++ drop (at + length piece) old

-- A write of n bytes that a crash cuts short: any bytes in its range and past the old end, any end from the old one
-- to the range's, and the rest as it was.
pub record Torn (at n : ℕ) (old new : List ℕ) : Type 0 where
  pub before : take (min at (length old)) new ≡ take at old
  pub after : drop (at + n) new ≡ drop (at + n) old
  pub no_shorter : length old ≤ length new
  pub no_longer : length new ≤ max (length old) (at + n)

-- new is old up to this end
abbrev pub IsCut : ℕ → List ℕ → List ℕ → Type 0
IsCut end old new = new ≡ take end old

-- a cut that a crash may undo: the new end or the old one
abbrev pub CutOrNot : ℕ → List ℕ → List ℕ → Type 0
CutOrNot end old new = (new ≡ take end old) ⊎ (new ≡ old)

-- one file makes a step, and the others stay
pub record OnFile (file : ℕ) (step : List ℕ → List ℕ → Type 0) (old new : Image) : Type 0 where
  pub changed : step (old file) (new file)
  pub others : (other : ℕ) → other ≢ file → new other ≡ old other

-- each file stays
abbrev pub Same : Image → Image → Type 0
Same old new = (file : ℕ) → new file ≡ old file

-- each of the new ones is one of the old after a step
abbrev pub Follows : (Image → Image → Type 0) → (Image → Type 0) → (Image → Type 0) → Type 0
Follows step old new = (c : Image) → new c → (d : Image) × old d × step d c

-- what a read gives now is what it gave, after a step
abbrev pub ReadsFollow : (Image → Image → Type 0) → Sight → Sight → Type 0
ReadsFollow step old new = Follows step old.reads new.reads

-- A call, and the time that it takes: a crash now may leave what it might have left before, after a step. A crash since
-- some earlier moment might have left what it might have left before the call, or what it may leave now.
pub record Goes (step : Image → Image → Type 0) (old new : Sight) : Type 0 where
  pub crash : Follows step old.images new.images
  pub later : old.moment ≤ new.moment
  pub nothing_else : (t : ℕ) (c : Image) → t ≤ old.moment → new.left_since t c → old.left_since t c ⊎ new.images c
  pub keeps : (t : ℕ) (c : Image) → t ≤ old.moment → old.left_since t c → new.left_since t c

-- a read gives what it gave
pub record Keeps (old new : Sight) : Type 0 where
  pub still : (s : Image) → old.reads s → new.reads s
  pub nothing_new : (s : Image) → new.reads s → old.reads s

-- what told a reading goes on telling one, so no disk falls silent
abbrev pub GoesOnTelling : Sight → Sight → Type 0
GoesOnTelling old new = (s : Image) → old.reads s → (t : Image) × new.reads t

-- each image has these bytes in the file
abbrev pub Only : ℕ → List ℕ → (Image → Type 0) → Type 0
Only file bytes images = (c : Image) → images c → c file ≡ bytes

-- what a read gives of the file is all that a crash may leave of it
abbrev pub Synced : ℕ → Sight → Type 0
Synced file now = (c : Image) → now.images c → (s : Image) × now.reads s × Only file (s file) now.images
