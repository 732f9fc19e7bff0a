-- What came of the draw of a token's random bytes.
use Rattle.std.specs.Prelude.{◌≡◌, ⊤, ℕ, List, [], length}
use Rattle.sm_pool.specs.declared.drawing.Drawn.{Drawn}
use Rattle.sm_pool.specs.declared.drawing.Drawn.TheVariants.{Bytes, Failed, Memory}

-- the bytes that were drawn
abbrev pub drawn_in : Drawn → List ℕ
drawn_in (Bytes bytes) = bytes
drawn_in Failed = []
drawn_in Memory = []

-- they are as many as a token takes
abbrev pub HasToken : Drawn → Type 0
HasToken (Bytes bytes) = length bytes ≡ 16
HasToken Failed = ⊤
HasToken Memory = ⊤

-- a fact where the random source failed
abbrev pub OnDrawFault : Drawn → Type 0 → Type 0
OnDrawFault (Bytes bytes) P = ⊤
OnDrawFault Failed P = P
OnDrawFault Memory P = ⊤
