-- Characters inserted one after the other: how many there are, and which.
use Rattle.std.proofs.Common.{◌≡◌, ℕ, zero, suc, ◌+◌, ◌<◌, List, [], ◌∷◌, length, take, drop, refl, sym, subst, inl, inr, arith, add-one}
use Rattle.std.proofs.lemmas.Bool.{cases_lt}
use Rattle.std.proofs.lemmas.List.{length-append, length-take, length-drop, take-append-drop}
use Rattle.std.proofs.lemmas.List.Elements.{All-nil, All-cons, All-take, All-drop, All-append, Contains-append_left, Contains-append_right, Contains-append_cases}
use Rattle.std.specs.List.{All, Contains, insert}
use Rattle.sm_password.specs.Passwords.{inserted}

-- one step, as a loop has it
pub inserted_more : (character place : ℕ → ℕ) (k : ℕ) (text : List ℕ) → text ≡ inserted character place k →
    insert text (place k) (character k) ≡ inserted character place (k + 1)
inserted_more character place k text e = rw (add-one, e)

-- one character more
pub length_inserted_one : (xs : List ℕ) (i y : ℕ) → length (insert xs i y) ≡ length xs + 1
length_inserted_one xs i y =
    let at_front = length-append (take i xs) (y ∷ drop i xs) in
    omega (arith, at_front, length-take i xs, length-drop i xs)

-- as many characters as were inserted
pub length_inserted : (character place : ℕ → ℕ) (n : ℕ) → length (inserted character place n) ≡ n
length_inserted character place zero = refl
length_inserted character place (suc n) =
    let before = length_inserted character place n in
    omega (arith, before, length_inserted_one (inserted character place n) (place n) (character n))

-- what is so of each character that is inserted is so of each in the text
pub All-inserted : (P : ℕ → Type 0) (character place : ℕ → ℕ) (n : ℕ) → ((k : ℕ) → k < n → P (character k)) →
    All P (inserted character place n)
All-inserted P character place zero holds = All-nil P
All-inserted P character place (suc n) holds =
    let before = All-inserted P character place n (λ k below. holds k (omega arith)) in
    let here = holds n (omega arith) in
    let text = inserted character place n in
    All-append P (take (place n) text) (character n ∷ drop (place n) text) (All-take P (place n) text before)
    (All-cons P (character n) (drop (place n) text) here (All-drop P (place n) text before))

-- what was there stays
Contains-insert : (xs : List ℕ) (i y x : ℕ) → Contains xs x → Contains (insert xs i y) x
Contains-insert xs i y x there =
    let parted = subst (λ (zs : List ℕ). Contains zs x) (sym (take-append-drop i xs)) there in
    elim (Contains-append_cases (take i xs) (drop i xs) x parted) [
      | inl front ↦ Contains-append_left (take i xs) (y ∷ drop i xs) x front
      | inr back ↦ Contains-append_right (take i xs) (y ∷ drop i xs) x
          (Contains-append_right (y ∷ []) (drop i xs) x back)
    ]

-- what is inserted is there
Contains-inserted_one : (xs : List ℕ) (i y : ℕ) → Contains (insert xs i y) y
Contains-inserted_one xs i y = Contains-append_right (take i xs) (y ∷ drop i xs) y (0, omega arith, refl)

-- each character that was inserted is in the text
pub Contains-inserted : (character place : ℕ → ℕ) (n k : ℕ) → k < n →
    Contains (inserted character place n) (character k)
Contains-inserted character place zero k below = absurd (omega arith)
Contains-inserted character place (suc n) k below =
    elim (cases_lt k n) [
      | inl earlier ↦ Contains-insert (inserted character place n) (place n) (character n) (character k)
          (Contains-inserted character place n k earlier)
      | inr last ↦ let same : k ≡ n = omega arith in
          subst (λ (m : ℕ). Contains (insert (inserted character place n) (place n) (character n)) (character m))
          (sym same)
          (Contains-inserted_one (inserted character place n) (place n) (character n))
    ]
