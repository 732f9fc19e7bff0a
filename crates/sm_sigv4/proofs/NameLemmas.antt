-- The names of a text, one after the other.
use Rattle.std.proofs.Common.{◌≡◌, ℕ, ◌&&◌, ◌||◌, Bool, true, false, List, [], ◌∷◌, ap, sym, ◌∙◌}
use Rattle.sm_base.specs.Texts.{same_text}
use Rattle.sm_http.specs.Heads.{NameValue}
use Rattle.sm_sigv4.specs.Names.{is_next, are_next, is_among, names_of}
use Rattle.sm_sigv4.proofs.TestLemmas.{and_true, or_false}

module _ (wanted : Bool) (fields : List NameValue) (before left : List ℕ)
    (was : wanted ≡ are_next fields before (names_of left)) where
  pub next_passes : (name rest : List ℕ) → names_of left ≡ name ∷ names_of rest → is_next fields before name ≡ true
      → wanted ≡ are_next fields name (names_of rest)
  next_passes name rest first passes =
      was ∙ ap (are_next fields before) first ∙ ap (λ b. b && are_next fields name (names_of rest)) passes

  pub next_fails : (name rest : List ℕ) → names_of left ≡ name ∷ names_of rest → is_next fields before name ≡ false
      → false ≡ wanted
  next_fails name rest first fails =
      sym (was ∙ ap (are_next fields before) first ∙ ap (λ b. b && are_next fields name (names_of rest)) fails)

  pub last_name : names_of left ≡ left ∷ [] → is_next fields before left ≡ wanted
  last_name alone = sym (was ∙ ap (are_next fields before) alone ∙ and_true (is_next fields before left))

module _ (wanted : Bool) (left name : List ℕ) (was : wanted ≡ is_among (names_of left) name) where
  pub found_here : (found rest : List ℕ) → names_of left ≡ found ∷ names_of rest → same_text found name ≡ true
      → true ≡ wanted
  found_here found rest first is =
      sym (was ∙ ap (λ (names : List (List ℕ)). is_among names name) first
      ∙ ap (λ b. b || is_among (names_of rest) name) is)

  pub found_later : (found rest : List ℕ) → names_of left ≡ found ∷ names_of rest → same_text found name ≡ false
      → wanted ≡ is_among (names_of rest) name
  found_later found rest first is =
      was ∙ ap (λ (names : List (List ℕ)). is_among names name) first ∙ ap (λ b. b || is_among (names_of rest) name) is

  pub found_last : names_of left ≡ left ∷ [] → same_text left name ≡ wanted
  found_last alone =
      sym (was ∙ ap (λ (names : List (List ℕ)). is_among names name) alone ∙ or_false (same_text left name))
