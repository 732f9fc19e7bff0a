-- Words for what runs of calls on several files leave: each image goes by a step as a whole, since what one file holds
-- may say which of the others counts.
use Rattle.sm_disk.specs.Sight.{Image, Sight}
use Rattle.sm_disk.specs.Steps.{Follows, GoesOnTelling}
use Rattle.sm_disk.specs.OneFile.{LeavesOnly}

-- the image is one of these after a step
abbrev pub After : (Image → Image → Type 0) → (Image → Type 0) → Image → Type 0
After step images c = (d : Image) × images d × step d c

-- Calls on any files: a crash at any moment since old leaves an image of old that went by P, and a crash now one that
-- went by Q.
pub record LeavesBy (P Q : Image → Image → Type 0) (old now : Sight) : Type 0 where
  pub ever : LeavesOnly (After P old.images) old now
  pub images : Follows Q old.images now.images
  -- and a disk that told what a read gives goes on telling it
  pub tells : GoesOnTelling old now
