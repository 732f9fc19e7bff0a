-- How the wait for a frame ended.
use Rattle.std.specs.Prelude.{⊤, ◌≡◌, ℕ}
use Rattle.sm_replication.specs.declared.await_frame.Awaited.{Awaited}
use Rattle.sm_replication.specs.declared.await_frame.Awaited.TheVariants as awaited
use Rattle.sm_replication.specs.declared.extent.Extent.{Extent}
use Rattle.sm_replication.specs.declared.extent.Extent.TheVariants.{Whole, Over, Open}

-- how far the bytes reach that are there then
abbrev pub IsAwaited : Extent → Awaited → Type 0
IsAwaited e (awaited.Whole n) = e ≡ Whole n
IsAwaited e awaited.Over = e ≡ Over
IsAwaited e awaited.End = e ≡ Open
IsAwaited e awaited.Failed = e ≡ Open
IsAwaited e awaited.Memory = e ≡ Open

-- a fact about how many bytes are there
abbrev pub IfWhole : Awaited → (ℕ → Type 0) → Type 0
IfWhole (awaited.Whole n) P = P n
IfWhole awaited.Over P = ⊤
IfWhole awaited.End P = ⊤
IfWhole awaited.Failed P = ⊤
IfWhole awaited.Memory P = ⊤

-- a fact where the source has nothing left
abbrev pub OnAwaitedEnd : Awaited → Type 0 → Type 0
OnAwaitedEnd (awaited.Whole n) P = ⊤
OnAwaitedEnd awaited.Over P = ⊤
OnAwaitedEnd awaited.End P = P
OnAwaitedEnd awaited.Failed P = ⊤
OnAwaitedEnd awaited.Memory P = ⊤

-- a fact where the source failed
abbrev pub OnAwaitedFailed : Awaited → Type 0 → Type 0
OnAwaitedFailed (awaited.Whole n) P = ⊤
OnAwaitedFailed awaited.Over P = ⊤
OnAwaitedFailed awaited.End P = ⊤
OnAwaitedFailed awaited.Failed P = P
OnAwaitedFailed awaited.Memory P = ⊤

-- a wait for bytes that reach so far takes none where they are told already
abbrev pub Waits : {S : Type 0} → Extent → S → S → Type 0
Waits e source after = (e ≡ Open → ⊥) → after ≡ source

-- the count stays, but where the source failed
abbrev pub StaysUnlessAwaitedFailed : Awaited → ℕ → ℕ → Type 0
StaysUnlessAwaitedFailed (awaited.Whole n) old new = new ≡ old
StaysUnlessAwaitedFailed awaited.Over old new = new ≡ old
StaysUnlessAwaitedFailed awaited.End old new = new ≡ old
StaysUnlessAwaitedFailed awaited.Failed old new = ⊤
StaysUnlessAwaitedFailed awaited.Memory old new = new ≡ old
