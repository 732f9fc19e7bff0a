-- What a replica holds.
use Rattle.std.specs.Prelude.{⊤, ℕ, Bool, List}
use Rattle.sm_core.specs.Histories.{InTime}
use Rattle.sm_replication.specs.declared.frame.Frame.{Frame}
use Rattle.sm_replication.specs.declared.frame.Frame.TheVariants.{Entries, Rows}
use Rattle.sm_record.specs.declared.base.Base.{Base}

-- The region that it stands for; the rows, the last moment and the number of the entries that it followed, which is its
-- position; and whether it was promoted.
pub record Replica : Type 0 where
  pub region : List ℕ
  pub base : Base
  pub promoted : Bool

-- a clock can give the moment of each entry of the frame
abbrev pub IsTimely : Frame → Type 0
IsTimely (Entries at entries) = InTime entries
IsTimely (Rows at base) = ⊤
