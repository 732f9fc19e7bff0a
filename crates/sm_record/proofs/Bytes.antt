-- Bytes, what was read of them, and the ways in which that was an answer.
use Rattle.std.proofs.Common.{◌≡◌, ℕ, suc, ◌+◌, ◌<◌, ◌≤◌, Bool, true, false, cond, List, ◌∷◌, ◌++◌, length, get_or, Result, Ok, Err, ap, subst, ◌∙◌, refl, inl, inr, ◌⊎◌, arith, length-append, get_or-append-add}
use Rattle.sm_record.specs.Codec.{IsBytes, then_read}

-- what stands behind a front of bytes
pub bytes_behind : (bytes front rest : List ℕ) → IsBytes bytes → bytes ≡ front ++ rest → IsBytes rest
bytes_behind bytes front rest fits e i =
    subst (λ (n : ℕ). n < 256)
    (ap (λ (xs : List ℕ). get_or xs (length front + i) 0) e ∙ get_or-append-add front rest i 0)
    (fits (length front + i))

pub bytes_after : (byte : ℕ) (rest : List ℕ) → IsBytes (byte ∷ rest) → IsBytes rest
bytes_after byte rest fits i = fits (suc i)

pub no_longer : (bytes front rest : List ℕ) → bytes ≡ front ++ rest → length rest ≤ length bytes
no_longer bytes front rest e = omega (arith, ap length e, length-append front rest)

-- what was read
abbrev pub gives : {A : Type 0} → A × List ℕ → Result (A × List ℕ) ℕ
gives x = Ok x

-- what was not read
abbrev pub stops : {A : Type 0} → ℕ → Result (A × List ℕ) ℕ
stops left = Err left

pub ok_is : {A : Type 0} (x y : A × List ℕ) → gives x ≡ gives y → x ≡ y
ok_is x y e = cc

pub err_is : {A : Type 0} (m n : ℕ) → stops {A = A} m ≡ stops {A = A} n → m ≡ n
err_is m n e = cc

pub ok_no_err : {A : Type 0} (x : A × List ℕ) (n : ℕ) → gives x ≡ stops n → ⊥
ok_no_err x n e = cc

pub err_no_ok : {A : Type 0} (x : A × List ℕ) (n : ℕ) → stops n ≡ gives x → ⊥
err_no_ok x n e = cc

-- both steps gave something
pub bind_ok : {A B : Type 0} (r : Result (A × List ℕ) ℕ) (next : A → List ℕ → Result (B × List ℕ) ℕ)
    (y : B × List ℕ) → then_read r next ≡ gives y → (x : A × List ℕ) × (r ≡ gives x) × (next x.0 x.1 ≡ gives y)
bind_ok (Ok x) next y e = (x, refl, e)
bind_ok (Err left) next y e = absurd (err_no_ok y left e)

-- the first step stopped, or the second
pub bind_err : {A B : Type 0} (r : Result (A × List ℕ) ℕ) (next : A → List ℕ → Result (B × List ℕ) ℕ)
    (left : ℕ) → then_read r next ≡ stops left
    → (r ≡ stops left) ⊎ ((x : A × List ℕ) × (r ≡ gives x) × (next x.0 x.1 ≡ stops left))
bind_err (Ok x) next left e = inr (x, refl, e)
bind_err {A} {B} (Err n) next left e = inl (ap (stops {A = A}) (err_is {A = B} n left e))

pub chosen : {X : Type 0} (test : Bool) (x y z : X) → cond test x y ≡ z
    → ((test ≡ true) × (x ≡ z)) ⊎ ((test ≡ false) × (y ≡ z))
chosen true x y z e = inl (refl, e)
chosen false x y z e = inr (refl, e)

-- a test that passed, and one that failed
pub guard_ok : {A : Type 0} (test : Bool) (x y : A × List ℕ) (n : ℕ) → cond test (gives x) (stops n) ≡ gives y
    → (test ≡ true) × (x ≡ y)
guard_ok true x y n e = (refl, ok_is x y e)
guard_ok false x y n e = absurd (err_no_ok y n e)

pub guard_err : {A : Type 0} (test : Bool) (x : A × List ℕ) (n left : ℕ) → cond test (gives x) (stops n) ≡ stops left
    → n ≡ left
guard_err true x n left e = absurd (ok_no_err x left e)
guard_err {A} false x n left e = err_is {A = A} n left e

-- a test against that passed, and one that failed
pub unless_ok : {A : Type 0} (test : Bool) (x y : A × List ℕ) (n : ℕ) → cond test (stops n) (gives x) ≡ gives y
    → (test ≡ false) × (x ≡ y)
unless_ok true x y n e = absurd (err_no_ok y n e)
unless_ok false x y n e = (refl, ok_is x y e)

pub unless_err : {A : Type 0} (test : Bool) (x : A × List ℕ) (n left : ℕ) → cond test (stops n) (gives x) ≡ stops left
    → n ≡ left
unless_err {A} true x n left e = err_is {A = A} n left e
unless_err false x n left e = absurd (ok_no_err x left e)
