-- What the loops over sources and sinks answer.
use Rattle.std.specs.Prelude.{◌≡◌, ℕ, List, Option, take, ⊤}
use Rattle.std.specs.Io.KnownBytes.{append_known}
use Rattle.sm_io.specs.declared.transfer.Wrote.{Wrote}
use Rattle.sm_io.specs.declared.transfer.Wrote.TheVariants.{Ok, Fault}
use Rattle.sm_io.specs.declared.transfer.ReadEnd.{ReadEnd}
use Rattle.sm_io.specs.declared.transfer.ReadEnd.TheVariants.{End, Full, Failed, Memory}

-- a fact about how many bytes were taken before the fault
abbrev pub IfFault : Wrote → (ℕ → Type 0) → Type 0
IfFault Ok P = ⊤
IfFault (Fault n) P = P n

-- the count stays, but for a put of a whole piece that came to a fault
abbrev pub StaysUnlessFault : Wrote → ℕ → ℕ → Type 0
StaysUnlessFault Ok old new = new ≡ old
StaysUnlessFault (Fault n) old new = ⊤

-- what was taken grows by the piece, or by the bytes of it that were taken before the fault
abbrev pub Writes : Wrote → List ℕ → Option (List ℕ) → Option (List ℕ) → Type 0
Writes Ok piece old new = new ≡ append_known old piece
Writes (Fault n) piece old new = new ≡ append_known old (take n piece)

-- a fact where the source has nothing left
abbrev pub OnReadEnd : ReadEnd → Type 0 → Type 0
OnReadEnd End P = P
OnReadEnd Full P = ⊤
OnReadEnd Failed P = ⊤
OnReadEnd Memory P = ⊤

-- a fact where the source failed
abbrev pub OnReadFailed : ReadEnd → Type 0 → Type 0
OnReadFailed End P = ⊤
OnReadFailed Full P = ⊤
OnReadFailed Failed P = P
OnReadFailed Memory P = ⊤

-- the count stays, but for a read that failed
abbrev pub StaysUnlessReadFailed : ReadEnd → ℕ → ℕ → Type 0
StaysUnlessReadFailed End old new = new ≡ old
StaysUnlessReadFailed Full old new = new ≡ old
StaysUnlessReadFailed Failed old new = ⊤
StaysUnlessReadFailed Memory old new = new ≡ old
