-- Texts and their pieces.
use Rattle.std.proofs.Common.{◌≡◌, ◌≢◌, ℕ, ◌+◌, ◌<◌, ◌≤◌, ◌==◌, cond, Bool, true, false, List, [], ◌∷◌, ◌++◌, length, take, drop, get_or, refl, ap, sym, ◌∙◌, append_assoc, append-nil, arith}
use Rattle.std.specs.List.{onto_first}
use Rattle.std.proofs.lemmas.List.{drop_more, take_more, take_all}
use Rattle.std.proofs.Math.ListN.{drop_of_length-le}
use Rattle.sm_sigv4.specs.Texts.{pieces, past_spaces}
use Rattle.sm_sigv4.proofs.TestLemmas.{is_equal, is_other}

-- bytes in front of the first piece
abbrev pub with_front : List ℕ → List (List ℕ) → List (List ℕ)
with_front front [] = front ∷ []
with_front front (part ∷ parts) = (front ++ part) ∷ parts

front_moved : (front : List ℕ) (c : ℕ) (parts : List (List ℕ))
    → with_front front (onto_first c parts) ≡ with_front (front ++ c ∷ []) parts
front_moved front c [] = refl
front_moved front c (part ∷ parts) = ap (λ (p : List ℕ). p ∷ parts) (sym (append_assoc front (c ∷ []) part))

nothing_onto : (c : ℕ) (parts : List (List ℕ)) → onto_first c parts ≡ with_front [] (onto_first c parts)
nothing_onto c [] = refl
nothing_onto c (part ∷ parts) = refl

nothing_by : (b : Bool) (c : ℕ) (parts : List (List ℕ))
    → cond b ([] ∷ parts) (onto_first c parts) ≡ with_front [] (cond b ([] ∷ parts) (onto_first c parts))
nothing_by true c parts = refl
nothing_by false c parts = nothing_onto c parts

pub nothing_in_front : (byte : ℕ) (text : List ℕ) → pieces byte text ≡ with_front [] (pieces byte text)
nothing_in_front byte [] = refl
nothing_in_front byte (c ∷ text) = nothing_by (c == byte) c (pieces byte text)

module _ (byte : ℕ) (text : List ℕ) (i : ℕ) (h : i < length text)
    (was : pieces byte text ≡ with_front (take i text) (pieces byte (drop i text))) where
  pieces_from : (b : Bool) → (get_or text i 0 == byte) ≡ b → pieces byte (drop i text)
      ≡ cond b ([] ∷ pieces byte (drop (i + 1) text)) (onto_first (get_or text i 0) (pieces byte (drop (i + 1) text)))
  pieces_from b is =
      ap (pieces byte) (drop_more text i 0 h)
      ∙ ap (λ b. cond b ([] ∷ pieces byte (drop (i + 1) text))
      (onto_first (get_or text i 0) (pieces byte (drop (i + 1) text)))) is

  pub piece_here : (front back : List ℕ) → get_or text i 0 ≡ byte → front ≡ take i text → back ≡ drop (i + 1) text
      → pieces byte text ≡ front ∷ pieces byte back
  piece_here front back is front_is back_is =
      was ∙ ap (with_front (take i text)) (pieces_from true (is_equal (get_or text i 0) byte is))
      ∙ ap (λ (f : List ℕ). f ∷ pieces byte (drop (i + 1) text)) (append-nil (take i text) ∙ sym front_is)
      ∙ ap (λ (b : List ℕ). front ∷ pieces byte b) (sym back_is)

  pub not_here : get_or text i 0 ≢ byte
      → pieces byte text ≡ with_front (take (i + 1) text) (pieces byte (drop (i + 1) text))
  not_here is =
      was ∙ ap (with_front (take i text)) (pieces_from false (is_other (get_or text i 0) byte is))
      ∙ front_moved (take i text) (get_or text i 0) (pieces byte (drop (i + 1) text))
      ∙ ap (λ (f : List ℕ). with_front f (pieces byte (drop (i + 1) text))) (sym (take_more text i 0 h))

pub piece_alone : (byte : ℕ) (text : List ℕ) (i : ℕ) → length text ≤ i
    → pieces byte text ≡ with_front (take i text) (pieces byte (drop i text)) → pieces byte text ≡ text ∷ []
piece_alone byte text i h was =
    was ∙ ap (λ (t : List ℕ). with_front (take i text) (pieces byte t)) (drop_of_length-le text h)
    ∙ ap (λ (f : List ℕ). f ∷ []) (append-nil (take i text) ∙ take_all i text h)

-- spaces in front
module _ (text : List ℕ) (i : ℕ) (was : past_spaces text ≡ past_spaces (drop i text)) where
  pub space_passed : i < length text → get_or text i 0 ≡ 32 → past_spaces text ≡ past_spaces (drop (i + 1) text)
  space_passed h is =
      was ∙ ap past_spaces (drop_more text i 0 h)
      ∙ ap (λ b. cond b (past_spaces (drop (i + 1) text)) (get_or text i 0 ∷ drop (i + 1) text))
      (is_equal (get_or text i 0) 32 is)

  pub no_space : (rest : List ℕ) → i < length text → get_or text i 0 ≢ 32 → rest ≡ drop i text
      → rest ≡ past_spaces text
  no_space rest h is rest_is =
      rest_is ∙ drop_more text i 0 h
      ∙ sym (was ∙ ap past_spaces (drop_more text i 0 h)
      ∙ ap (λ b. cond b (past_spaces (drop (i + 1) text)) (get_or text i 0 ∷ drop (i + 1) text))
      (is_other (get_or text i 0) 32 is))

  pub all_spaces : (rest : List ℕ) → length text ≤ i → rest ≡ drop (length text) text → rest ≡ past_spaces text
  all_spaces rest h rest_is =
      rest_is ∙ drop_of_length-le text (omega arith) ∙ sym (was ∙ ap past_spaces (drop_of_length-le text h))

-- there is always a piece
pub record HasPiece (parts : List (List ℕ)) : Type 0 where
  pub first : List ℕ
  pub more : List (List ℕ)
  pub is : parts ≡ first ∷ more

piece_onto : (c : ℕ) (parts : List (List ℕ)) → HasPiece (onto_first c parts)
piece_onto c [] = record { first = c ∷ []; more = []; is = refl }
piece_onto c (part ∷ parts) = record { first = c ∷ part; more = parts; is = refl }

piece_by : (b : Bool) (c : ℕ) (parts : List (List ℕ)) → HasPiece (cond b ([] ∷ parts) (onto_first c parts))
piece_by true c parts = record { first = []; more = parts; is = refl }
piece_by false c parts = piece_onto c parts

pub has_piece : (byte : ℕ) (text : List ℕ) → HasPiece (pieces byte text)
has_piece byte [] = record { first = []; more = []; is = refl }
has_piece byte (c ∷ text) = piece_by (c == byte) c (pieces byte text)
