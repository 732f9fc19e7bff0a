-- Laws of frames as bytes.
use Rattle.std.specs.Prelude.{⊤, ◌≡◌, ℕ, ◌≤◌, List, ◌++◌, length}
use Rattle.sm_replication.specs.declared.extent.Extent.{Extent}
use Rattle.sm_replication.specs.declared.extent.Extent.TheVariants.{Whole, Over, Open}
use Rattle.sm_replication.specs.declared.input.Input.{Input}
use Rattle.sm_replication.specs.Extents.{extent}
use Rattle.sm_replication.specs.Frames.{IsFrame, frame_bytes}
use Rattle.sm_replication.specs.Reading.{StartsBadly}

-- a frame reaches all of its bytes, whatever stands behind them
abbrev pub ReachesItsBytes : Type 0
ReachesItsBytes = (i : Input) (rest : List ℕ) → IsFrame i
    → extent (frame_bytes i ++ rest) ≡ Whole (length (frame_bytes i))

-- what bytes say of how far they reach stays with more bytes
abbrev pub Stays : Extent → Extent → ℕ → Type 0
Stays (Whole n) later size = (later ≡ Whole n) × (n ≤ size)
Stays Over later size = later ≡ Over
Stays Open later size = ⊤

abbrev pub StaysReached : Type 0
StaysReached = (bytes more : List ℕ) → Stays (extent bytes) (extent (bytes ++ more)) (length bytes)

-- bytes of one frame are those of no other
abbrev pub SpellsOneFrame : Type 0
SpellsOneFrame = (i j : Input) → IsFrame i → IsFrame j → frame_bytes i ≡ frame_bytes j → i ≡ j

-- where no frame begins some bytes, none does with more behind them
abbrev pub StaysBad : Type 0
StaysBad = (bytes more : List ℕ) (i : Input) (rest : List ℕ) → StartsBadly bytes → IsFrame i
    → ¬ (bytes ++ more ≡ frame_bytes i ++ rest)
