-- What a call answers that may want memory.
use Rattle.std.specs.Prelude.{◌≡◌, Option, Some, None, ⊤}

-- Out of memory, or exactly this. An answer is told as None where it is out of memory.
abbrev pub OrMemory : {A : Type 0} → Option A → A → Type 0
OrMemory None wanted = ⊤
OrMemory (Some answer) wanted = answer ≡ wanted
