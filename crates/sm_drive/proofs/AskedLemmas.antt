-- Calls that may be made, one after the other.
use Rattle.std.proofs.Common.{◌≡◌, ◌↔◌, ℕ, Bool, false, true, zero, suc, ◌+◌, ◌<◌, ◌≤◌, List, [], ◌∷◌, ◌++◌, length, take, get_or, ap, subst, sym, ◌∙◌, arith}
use Rattle.std.specs.Prelude.{IsTrue}
use Rattle.std.proofs.lemmas.List.{take_all, take_more}
use Rattle.sm_drive.specs.Asked.{MayBeMade, AllMayBeMade}
use Rattle.sm_drive.specs.declared.call.Call.{Call}

all_more : (calls : List Call) (call : Call) → AllMayBeMade calls → MayBeMade call
    → AllMayBeMade (calls ++ call ∷ [])
all_more [] call all may = (may, tt)
all_more (c ∷ calls) call all may = (all.0, all_more calls call all.1 may)

-- one more at a step of a loop, and all of them at its end
pub all_on : (calls : List Call) (k : ℕ) (call : Call) → k < length calls → call ≡ get_or calls k call
    → MayBeMade call → AllMayBeMade (take k calls) → AllMayBeMade (take (k + 1) calls)
all_on calls k call lt is may all =
    subst AllMayBeMade (sym (take_more calls k call lt ∙ ap (λ (c : Call). take k calls ++ c ∷ []) (sym is)))
    (all_more (take k calls) call all may)

pub all_made : (calls : List Call) (k : ℕ) → length calls ≤ k → AllMayBeMade (take k calls) → AllMayBeMade calls
all_made calls k le all = subst AllMayBeMade (take_all k calls le) all

-- each of them may be made
pub made_at : (calls : List Call) (k : ℕ) (call : Call) → AllMayBeMade calls → k < length calls
    → call ≡ get_or calls k call → MayBeMade call
made_at [] k call all lt is = absurd (omega (arith, lt))
made_at (c ∷ calls) zero call all lt is = subst MayBeMade (sym is) all.0
made_at (c ∷ calls) (suc k) call all lt is = made_at calls k call all.1 (omega (arith, lt)) is

pub refuted : (b : Bool) → b ≡ false → b ≡ true → ⊥
refuted b refused passed = let no_more : false ≡ true = sym refused ∙ passed in cc

-- where one of them may not be made, not all may
pub one_refused : (calls : List Call) (k : ℕ) (call : Call) → k < length calls → call ≡ get_or calls k call
    → (MayBeMade call → ⊥) → IsTrue false ↔ AllMayBeMade calls
one_refused calls k call lt is refused = (
  λ never. absurd (let none : false ≡ true = never in cc),
  λ all. absurd (refused (made_at calls k call all lt is)),
)
