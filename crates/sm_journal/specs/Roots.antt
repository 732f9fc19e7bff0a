-- The root: the file whose first byte says which of the other two counts.
use Rattle.std.specs.Prelude.{◌≡◌, ℕ, ◌==◌, if◌then◌else◌, List, ◌∷◌, get_or}
use Rattle.sm_disk.specs.Sight.{Image}
use Rattle.sm_disk.specs.OneFile.{EachHas}
use Rattle.sm_journal.specs.declared.root.TheConstants.{ROOT}

-- the number of the file that these bytes name: 1 where their first byte is 1, and else 0, also where there is none
abbrev pub named : List ℕ → ℕ
named bytes = if get_or bytes 0 0 == 1 then 1 else 0

-- the root names this file in each of these images
abbrev pub AllName : ℕ → (Image → Type 0) → Type 0
AllName file images = EachHas ROOT (λ bytes. named bytes ≡ file) images

-- the first byte is this one
pub record BeginsWith (byte : ℕ) (bytes : List ℕ) : Type 0 where
  pub rest : List ℕ
  pub is : bytes ≡ byte ∷ rest
