-- What a take from a source answers, and what it does to the bytes that are left.
use Rattle.std.specs.Prelude.{◌≡◌, ℕ, List, Option, take, ⊤}
use Rattle.std.specs.Io.KnownBytes.{prepend_known}
use Rattle.sm_io.specs.declared.source.Took.{Took}
use Rattle.sm_io.specs.declared.source.Took.TheVariants.{Got, End, Failed}
use Rattle.sm_base.specs.Faults.{raised}

-- a fact about how many bytes a take got, where it got some
abbrev pub IfGot : Took → (ℕ → Type 0) → Type 0
IfGot (Got n) P = P n
IfGot End P = ⊤
IfGot Failed P = ⊤

-- a fact where a take answers that nothing is left
abbrev pub OnEnd : Took → Type 0 → Type 0
OnEnd (Got n) P = ⊤
OnEnd End P = P
OnEnd Failed P = ⊤

-- a fact where a take failed
abbrev pub OnTakeFailed : Took → Type 0 → Type 0
OnTakeFailed (Got n) P = ⊤
OnTakeFailed End P = ⊤
OnTakeFailed Failed P = P

-- What was left begins with the bytes that the take put at the front of the buffer, and loses them. Every other answer
-- takes none.
abbrev pub Takes : Took → List ℕ → Option (List ℕ) → Option (List ℕ) → Type 0
Takes (Got n) buf old new = old ≡ prepend_known (take n buf) new
Takes End buf old new = new ≡ old
Takes Failed buf old new = new ≡ old

-- the count stays, but for a take that failed
abbrev pub StaysUnlessTakeFailed : Took → ℕ → ℕ → Type 0
StaysUnlessTakeFailed (Got n) old new = new ≡ old
StaysUnlessTakeFailed End old new = new ≡ old
StaysUnlessTakeFailed Failed old new = ⊤

-- the count of a source that counts exactly its failed takes
abbrev pub faults_after_take : Took → ℕ → ℕ
faults_after_take (Got n) count = count
faults_after_take End count = count
faults_after_take Failed count = raised count
