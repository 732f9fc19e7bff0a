-- The spaces in a value.
use Rattle.std.proofs.Common.{◌≡◌, ℕ, ◌+◌, ◌<◌, ◌≤◌, ◌==◌, ◌&&◌, cond, Bool, true, false, List, [], ◌∷◌, ◌++◌, length, take, drop, get_or, reverse, ap, sym, ◌∙◌, append_assoc, append-nil}
use Rattle.std.proofs.lemmas.List.{drop_more, take_more, take_all, reverse-append, reverse-reverse}
use Rattle.std.proofs.Math.ListN.{drop_of_length-le}
use Rattle.httparse.specs.Grammar.{is_ows, skip_ows}
use Rattle.sm_sigv4.specs.Texts.{begins_with_space, single_spaced}

module _ (text : List ℕ) (i : ℕ) (was : single_spaced text ≡ take i text ++ single_spaced (drop i text))
    (h : i < length text) where
  spaced_from : (b : Bool) → ((get_or text i 0 == 32) && begins_with_space (drop (i + 1) text)) ≡ b
      → single_spaced (drop i text)
      ≡ cond b (single_spaced (drop (i + 1) text)) (get_or text i 0 ∷ single_spaced (drop (i + 1) text))
  spaced_from b is =
      ap single_spaced (drop_more text i 0 h)
      ∙ ap (λ b. cond b (single_spaced (drop (i + 1) text)) (get_or text i 0 ∷ single_spaced (drop (i + 1) text))) is

  pub space_left_out : ((get_or text i 0 == 32) && begins_with_space (drop (i + 1) text)) ≡ true
      → single_spaced text ≡ take i text ++ single_spaced (drop (i + 1) text)
  space_left_out is = was ∙ ap (λ (t : List ℕ). take i text ++ t) (spaced_from true is)

  pub byte_stays : ((get_or text i 0 == 32) && begins_with_space (drop (i + 1) text)) ≡ false
      → single_spaced text ≡ take (i + 1) text ++ single_spaced (drop (i + 1) text)
  byte_stays is =
      was ∙ ap (λ (t : List ℕ). take i text ++ t) (spaced_from false is)
      ∙ sym (append_assoc (take i text) (get_or text i 0 ∷ []) (single_spaced (drop (i + 1) text)))
      ∙ ap (λ (t : List ℕ). t ++ single_spaced (drop (i + 1) text)) (sym (take_more text i 0 h))

pub no_spaces : (text : List ℕ) (i : ℕ) → single_spaced text ≡ take i text ++ single_spaced (drop i text)
    → length text ≤ i → single_spaced text ≡ text
no_spaces text i was h =
    was ∙ ap (λ (t : List ℕ). take i text ++ single_spaced t) (drop_of_length-le text h) ∙ append-nil (take i text)
    ∙ take_all i text h

ends : (rest : List ℕ) (last : ℕ) (b : Bool) → is_ows last ≡ b
    → reverse (skip_ows (reverse (rest ++ last ∷ []))) ≡ cond b (reverse (skip_ows (reverse rest)))
    (reverse (last ∷ reverse rest))
ends rest last b is =
    ap (λ (t : List ℕ). reverse (skip_ows t)) (reverse-append rest (last ∷ []))
    ∙ by b is
  where
    by : (b : Bool) → is_ows last ≡ b → reverse (skip_ows (last ∷ reverse rest))
        ≡ cond b (reverse (skip_ows (reverse rest))) (reverse (last ∷ reverse rest))
    by true is = ap (λ b. reverse (cond b (skip_ows (reverse rest)) (last ∷ reverse rest))) is
    by false is = ap (λ b. reverse (cond b (skip_ows (reverse rest)) (last ∷ reverse rest))) is

pub blank_end : (wanted left rest : List ℕ) (last : ℕ) → wanted ≡ reverse (skip_ows (reverse left))
    → left ≡ rest ++ last ∷ [] → is_ows last ≡ true → wanted ≡ reverse (skip_ows (reverse rest))
blank_end wanted left rest last was parts is =
    was ∙ ap (λ (t : List ℕ). reverse (skip_ows (reverse t))) parts ∙ ends rest last true is

pub other_end : (wanted left rest : List ℕ) (last : ℕ) → wanted ≡ reverse (skip_ows (reverse left))
    → left ≡ rest ++ last ∷ [] → is_ows last ≡ false → left ≡ wanted
other_end wanted left rest last was parts is =
    sym (was ∙ ap (λ (t : List ℕ). reverse (skip_ows (reverse t))) parts ∙ ends rest last false is
    ∙ ap reverse (sym (reverse-append rest (last ∷ []))) ∙ reverse-reverse (rest ++ last ∷ []) ∙ sym parts)
