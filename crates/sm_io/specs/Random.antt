-- What a draw answers, and what it does to the bytes that were drawn.
use Rattle.std.specs.Prelude.{◌≡◌, ℕ, List, Option, ⊤}
use Rattle.std.specs.Io.KnownBytes.{append_known}
use Rattle.sm_io.specs.declared.random.Drew.{Drew}
use Rattle.sm_io.specs.declared.random.Drew.TheVariants.{Bytes, Failed, Memory}
use Rattle.sm_base.specs.Faults.{raised}

-- a fact about the bytes that were drawn, where there are some
abbrev pub IfDrew : Drew → (List ℕ → Type 0) → Type 0
IfDrew (Bytes bytes) P = P bytes
IfDrew Failed P = ⊤
IfDrew Memory P = ⊤

-- a fact where a draw failed
abbrev pub OnDrawFailed : Drew → Type 0 → Type 0
OnDrawFailed (Bytes bytes) P = ⊤
OnDrawFailed Failed P = P
OnDrawFailed Memory P = ⊤

-- What was drawn grows by the bytes of this draw, and every other answer draws nothing.
abbrev pub Draws : Drew → Option (List ℕ) → Option (List ℕ) → Type 0
Draws (Bytes bytes) old new = new ≡ append_known old bytes
Draws Failed old new = new ≡ old
Draws Memory old new = new ≡ old

-- the count stays, but for a draw that failed
abbrev pub StaysUnlessFailed : Drew → ℕ → ℕ → Type 0
StaysUnlessFailed (Bytes bytes) old new = new ≡ old
StaysUnlessFailed Failed old new = ⊤
StaysUnlessFailed Memory old new = new ≡ old

-- the count of words that count exactly their failed draws
abbrev pub faults_after_draw : Drew → ℕ → ℕ
faults_after_draw (Bytes bytes) count = count
faults_after_draw Failed count = raised count
faults_after_draw Memory count = count
