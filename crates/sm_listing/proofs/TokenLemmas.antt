-- Tokens: a token spells one serial at most.
use Rattle.std.proofs.Common.{◌≡◌, ℕ, ◌^◌, ◌<◌, true, ◌&&◌, ltb, List, ◌∷◌, Option, Some, None, ◌≢◌, Bor, refl, sym, ap, ◌∙◌, inl, inr}
use Rattle.std.specs.Prelude.{decimal, MatchOption, nat_eq}
use Rattle.std.specs.Cmp.Lexicographic.{pointwise}
use Rattle.std.proofs.lemmas.Bool.{cases_Bool, and_parts, ltb-true, lt-ltb}
use Rattle.std.proofs.lemmas.Slice.Eq.{bytes_eq-Decides}
use Rattle.std.proofs.lemmas.Fmt.{decimal_is_IsNumeral}
use Rattle.sm_listing.specs.PageTokens.{spelled, written, serial_of}
use Rattle.sm_listing.specs.Walks.{IsNumber}

-- a spelling's serial is the one that it spells
pub spelled_serial : (letter : ℕ) (token : List ℕ) (n : ℕ) → n < 2 ^ 64 → token ≡ letter ∷ decimal n →
    Some n ≡ serial_of letter token
unfolding serial_of spelled written
spelled_serial letter token n below same =
    let number : written token ≡ n = rw same (decimal_is_IsNumeral n below).1 in
    let equal : pointwise nat_eq token (letter ∷ decimal (written token)) ≡ true =
    (bytes_eq-Decides token (letter ∷ decimal (written token))).1 (rw number same) in
    rw (equal, number, lt-ltb n (2 ^ 64) below)

-- what is no spelling has none
pub no_serial : (letter : ℕ) (token : List ℕ) → ((n : ℕ) → n < 2 ^ 64 → token ≡ letter ∷ decimal n → ⊥) →
    None ≡ serial_of letter token
unfolding serial_of spelled written
no_serial letter token other =
    elim (cases_Bool (pointwise nat_eq token (letter ∷ decimal (written token)) && ltb (written token) (2 ^ 64))) [
      | inl both ↦
          let parts = and_parts _ _ both in
          absurd (other (written token) (ltb-true (written token) (2 ^ 64) parts.1)
          ((bytes_eq-Decides token (letter ∷ decimal (written token))).0 parts.0))
      | inr neither ↦ rw neither refl
    ]

-- ---- by what stands behind the letter

behind : (letter : ℕ) (xs ys : List ℕ) → letter ∷ xs ≡ letter ∷ ys → xs ≡ ys
behind letter xs ys same = cc

-- a token without the letter
pub not_stripped : (letter : ℕ) (token : List ℕ) (stripped : Option (Bor (List ℕ))) →
    MatchOption stripped ((rest : List ℕ) → token ≢ letter ∷ rest) (λ digits. token ≡ letter ∷ digits.now) →
    stripped ≡ None → None ≡ serial_of letter token
not_stripped letter token None other none = no_serial letter token (λ n below same. other (decimal n) same)
not_stripped letter token (Some digits) same none = cc

-- a token with the letter, and the number behind it
pub stripped_number : (letter : ℕ) (token : List ℕ) (stripped : Option (Bor (List ℕ))) (digits : Bor (List ℕ))
    (number : Option ℕ) →
    MatchOption stripped ((rest : List ℕ) → token ≢ letter ∷ rest) (λ digits. token ≡ letter ∷ digits.now) →
    stripped ≡ Some digits → IsNumber digits.now number → number ≡ serial_of letter token
stripped_number letter token None digits number other there says = cc
stripped_number letter token (Some rest) digits None parted there none =
    let same : rest ≡ digits = cc in
    no_serial letter token (λ n below spelling. none n below (ap (λ (r : Bor (List ℕ)). r.now) (sym same)
    ∙ behind letter rest.now (decimal n) (sym parted ∙ spelling)))
stripped_number letter token (Some rest) digits (Some n) parted there says =
    let same : rest ≡ digits = cc in
    spelled_serial letter token n says.0
    (parted ∙ ap (λ (r : Bor (List ℕ)). letter ∷ r.now) same ∙ ap (λ ds. letter ∷ ds) says.1)
