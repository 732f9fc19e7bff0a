-- Bytes that were read ahead, and what a take from a source adds to them.
use Rattle.std.specs.Prelude.{◌≡◌, ℕ, List, ◌++◌, Option, ⊤}
use Rattle.std.specs.Io.KnownBytes.{prepend_known}
use Rattle.sm_http.specs.declared.ahead.More.{More}
use Rattle.sm_http.specs.declared.ahead.More.TheVariants.{Got, End, Failed, Memory}

-- What was taken stands behind the bytes, and what is left of the source lost it.
pub record Moves (old new : List ℕ) (before after : Option (List ℕ)) : Type 0 where
  pub taken : List ℕ
  pub grows : new ≡ old ++ taken
  pub left : before ≡ prepend_known taken after

-- a fact where more bytes came
abbrev pub OnMore : More → Type 0 → Type 0
OnMore Got P = P
OnMore End P = ⊤
OnMore Failed P = ⊤
OnMore Memory P = ⊤

-- a fact where none came
abbrev pub OnNoMore : More → Type 0 → Type 0
OnNoMore Got P = ⊤
OnNoMore End P = P
OnNoMore Failed P = P
OnNoMore Memory P = P

-- a fact where the source has nothing left
abbrev pub OnMoreEnd : More → Type 0 → Type 0
OnMoreEnd Got P = ⊤
OnMoreEnd End P = P
OnMoreEnd Failed P = ⊤
OnMoreEnd Memory P = ⊤

-- a fact where the source failed
abbrev pub OnMoreFailed : More → Type 0 → Type 0
OnMoreFailed Got P = ⊤
OnMoreFailed End P = ⊤
OnMoreFailed Failed P = P
OnMoreFailed Memory P = ⊤

-- the count stays, but where the source failed
abbrev pub StaysUnlessMoreFailed : More → ℕ → ℕ → Type 0
StaysUnlessMoreFailed Got old new = new ≡ old
StaysUnlessMoreFailed End old new = new ≡ old
StaysUnlessMoreFailed Failed old new = ⊤
StaysUnlessMoreFailed Memory old new = new ≡ old
