-- Words for what stands on a disk: runs of calls on one file among the others, and what a crash during them leaves.
use Rattle.std.specs.Prelude.{◌⊎◌, ℕ, ◌≤◌, List}
use Rattle.sm_disk.specs.Sight.{Image, Sight}
use Rattle.sm_disk.specs.Steps.{OnFile, Follows, GoesOnTelling}

-- A crash at any moment since old leaves an image that has P.
pub record LeavesOnly (P : Image → Type 0) (old now : Sight) : Type 0 where
  pub later : old.moment ≤ now.moment
  pub each : (c : Image) → now.left_since old.moment c → P c
  -- for a run that began earlier
  pub before : (t : ℕ) (c : Image) → t ≤ old.moment → now.left_since t c → old.left_since t c ⊎ P c

-- each of these images has P of the file
abbrev pub EachHas : ℕ → (List ℕ → Type 0) → (Image → Type 0) → Type 0
EachHas file P images = (c : Image) → images c → P (c file)

-- the image is one of these but for one file, which went by a step
abbrev pub Beside : ℕ → (List ℕ → List ℕ → Type 0) → (Image → Type 0) → Image → Type 0
Beside file step images c = (d : Image) × images d × OnFile file step d c

-- any change
abbrev pub Anyhow : List ℕ → List ℕ → Type 0
Anyhow old new = Unit {0}

-- Calls on one file: a crash at any moment since old leaves an image of old on which this file went by P, and a crash
-- now one on which it went by Q. The other files stay in every image and in what a read gives.
pub record Leaves (file : ℕ) (P Q : List ℕ → List ℕ → Type 0) (old now : Sight) : Type 0 where
  pub ever : LeavesOnly (Beside file P old.images) old now
  pub images : Follows (OnFile file Q) old.images now.images
  pub reads : Follows (OnFile file Anyhow) old.reads now.reads
  -- and a disk that told what a read gives goes on telling it
  pub tells : GoesOnTelling old now
