-- What is said of a value, said of the block in which it lies.
use Rattle.std.specs.Prelude.{◌≡◌, List, [], ◌∷◌, Option, Some, Box}
use Rattle.std.specs.Global.{Global}

abbrev pub boxed : {T X : Type 0} → (T → X) → Box T Global → X
boxed f block = f block.value

-- the one slot has a block with the value
abbrev pub IsSlotOf : {T : Type 0} → T → List (Option (Box T Global)) → Type 0
IsSlotOf {T} value slots = (block : Box T Global) × (slots ≡ Some block ∷ []) × (block.value ≡ value)
