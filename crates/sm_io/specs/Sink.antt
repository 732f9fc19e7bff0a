-- What a put into a sink answers, and what it does to the bytes that were taken.
use Rattle.std.specs.Prelude.{◌≡◌, ℕ, List, Option, take, ⊤}
use Rattle.std.specs.Io.KnownBytes.{append_known}
use Rattle.sm_io.specs.declared.sink.Gave.{Gave}
use Rattle.sm_io.specs.declared.sink.Gave.TheVariants.{Put, Failed}
use Rattle.sm_base.specs.Faults.{raised}

-- a fact about how many bytes a put gave, where it didn't fail
abbrev pub IfPut : Gave → (ℕ → Type 0) → Type 0
IfPut (Put n) P = P n
IfPut Failed P = ⊤

-- a fact where a put failed
abbrev pub OnPutFailed : Gave → Type 0 → Type 0
OnPutFailed (Put n) P = ⊤
OnPutFailed Failed P = P

-- What was taken grows by the front of the piece, and a put that failed adds nothing.
abbrev pub Puts : Gave → List ℕ → Option (List ℕ) → Option (List ℕ) → Type 0
Puts (Put n) piece old new = new ≡ append_known old (take n piece)
Puts Failed piece old new = new ≡ old

-- the count stays, but for a put that failed
abbrev pub StaysUnlessPutFailed : Gave → ℕ → ℕ → Type 0
StaysUnlessPutFailed (Put n) old new = new ≡ old
StaysUnlessPutFailed Failed old new = ⊤

-- the count of a sink that counts exactly its failed puts
abbrev pub faults_after_put : Gave → ℕ → ℕ
faults_after_put (Put n) count = count
faults_after_put Failed count = raised count
