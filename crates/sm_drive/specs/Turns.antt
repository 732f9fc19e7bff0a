-- Calls that are made one after the other.
use Rattle.std.specs.Prelude.{◌≡◌, List, [], ◌∷◌}
use Rattle.sm_drive.specs.declared.call.Call.{Call}
use Rattle.sm_drive.specs.declared.outcome.Outcome.{Outcome}

-- one call after the other, and one outcome a call: each goes on by this rule from where the one before it left off
abbrev pub InTurn : {A : Type 0} → (Call → Outcome → A → A → Type 0) → List Call → List Outcome → A → A → Type 0
InTurn goes [] [] first last = last ≡ first
InTurn goes [] (out ∷ outs) first last = ⊥
InTurn goes (call ∷ calls) [] first last = ⊥
InTurn {A} goes (call ∷ calls) (out ∷ outs) first last =
    (next : A) × goes call out first next × InTurn goes calls outs next last
