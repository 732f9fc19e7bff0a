-- Faults of the outside, which are counted.
use Rattle.std.specs.Prelude.{◌≡◌, ℕ, ◌≤◌, if◌then◌else◌, Result, is_ok, IsOk, IsErr}
use Rattle.sm_base.specs.Faults.{Rose, raised}

-- The count never falls, an error comes only where it rose, and where none comes it stays: each fault is told. The
-- count ends at 2^64 - 1, where one that rose is equal to the one before.
pub record HasCause {T E : Type 0} (before now : ℕ) (result : Result T E) : Type 0 where
  pub later : before ≤ now
  pub failed : IsErr result → Rose before now
  pub no_other : IsOk result → now ≡ before

-- the count of a disk that counts exactly its errors
abbrev pub faults_after : {T E : Type 0} → Result T E → ℕ → ℕ
faults_after result count = if is_ok result then count else raised count
