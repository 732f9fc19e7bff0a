-- Serials: numbers that rise, each below the next one to be given.
use Rattle.std.specs.Prelude.{ℕ, ◌+◌, Bool, ◌&&◌, nat_le, List, [], ◌∷◌}
use Rattle.sm_model.specs.declared.rows.VersionRow.{VersionRow}

-- the numbers rise from low on, and the next one is above them all
abbrev pub rises : ℕ → List ℕ → ℕ → Bool
rises low [] next = nat_le low next
rises low (n ∷ ns) next = nat_le low n && rises (n + 1) ns next

abbrev pub version_serials : List VersionRow → List ℕ
version_serials [] = []
version_serials (v ∷ vs) = v.serial ∷ version_serials vs
