-- How long a file reads.
use Rattle.std.specs.Prelude.{◌≡◌, ℕ, ◌≤◌, List, length}
use Rattle.sm_disk.specs.Sight.{Image, Sight}

abbrev pub SameLength : List ℕ → List ℕ → Type 0
SameLength old new = length new ≡ length old

-- what a read gives of the file has this length
abbrev pub ReadsLength : ℕ → ℕ → Sight → Type 0
ReadsLength file n now = (s : Image) → now.reads s → length (s file) ≡ n

-- what a read gives of the file has at least this length
abbrev pub ReadsAtLeast : ℕ → ℕ → Sight → Type 0
ReadsAtLeast file n now = (s : Image) → now.reads s → n ≤ length (s file)
