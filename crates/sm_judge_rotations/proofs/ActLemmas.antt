-- What is shown of an act that may be legal and has a change then.
use Rattle.std.proofs.Common.{◌≡◌, ℕ, Bool, true, false, cond, nat_eq, Option, Some, None, arith}
use Rattle.std.proofs.lemmas.Bool.Decides.{nat_tests}
use Rattle.sm_model.specs.declared.entry.Change.{Change}

-- there is a change exactly where the act is legal, and this holds of it
abbrev pub Agrees : Type 0 → (Change → Type 0) → Option Change → Type 0
Agrees L P None = L → ⊥
Agrees L P (Some change) = L × P change

-- the same of an act that needs so many random bytes
pub with_bytes : (n m : ℕ) (enough : Bool) (L : Type 0) (P : Change → Type 0) (change : Option Change)
    → nat_eq n m ≡ enough → Agrees L P change → Agrees ((n ≡ m) × L) P (cond enough change None)
with_bytes n m true L P None e h = λ legal. h legal.1
with_bytes n m true L P (Some change) e h = let same : n ≡ m = grind (arith, nat_tests, e) in ((same, h.0), h.1)
with_bytes n m false L P change e h = λ legal. absurd (grind (arith, nat_tests, e, legal.0))
