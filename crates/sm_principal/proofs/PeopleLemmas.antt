-- The people text, line by line.
use Rattle.std.proofs.Common.{◌≡◌, ℕ, ◌+◌, ◌<◌, ◌==◌, cond, Bool, true, false, List, [], ◌∷◌, length, Option, Some, None, Result, Ok, Err, refl, ap, sym, ◌∙◌, arith}
use Rattle.sm_principal.specs.Persons.{Known}
use Rattle.sm_principal.specs.Lines.{pushed, parted, lines_of, with_line, persons_from}
use Rattle.sm_principal.proofs.LineLemmas.{line_first, line_alone}

module _ (whole : Result (List Known) ℕ) (number : ℕ) (known : List Known) (left line rest : List ℕ)
    (was : whole ≡ persons_from number (Ok known) (lines_of left)) (apart : Some (line, rest) ≡ parted 10 left) where
  from : whole ≡ persons_from (number + 1) (with_line number known line) (lines_of rest)
  from = was ∙ ap (persons_from number (Ok known)) (line_first left (line, rest) (sym apart))

  pub goes_on : (more : List Known) → ((n : ℕ) → with_line n known line ≡ Ok more)
      → whole ≡ persons_from (number + 1) (Ok more) (lines_of rest)
  goes_on more is = from ∙ ap (λ r. persons_from (number + 1) r (lines_of rest)) (is number)

  pub line_is_bad : ((n : ℕ) → with_line n known line ≡ Err n) → whole ≡ Err number
  line_is_bad is = from ∙ ap (λ r. persons_from (number + 1) r (lines_of rest)) (is number)

module _ (whole : Result (List Known) ℕ) (number : ℕ) (known : List Known) (left : List ℕ)
    (was : whole ≡ persons_from number (Ok known) (lines_of left)) (alone : None ≡ parted 10 left) where
  from_last : whole ≡ persons_from (number + 1) (with_line number known left) []
  from_last = was ∙ ap (persons_from number (Ok known)) (line_alone left (sym alone))

  pub last_line : (more : List Known) → ((n : ℕ) → with_line n known left ≡ Ok more) → whole ≡ Ok more
  last_line more is = from_last ∙ ap (λ r. persons_from (number + 1) r []) (is number)

  pub last_is_bad : ((n : ℕ) → with_line n known left ≡ Err n) → whole ≡ Err number
  last_is_bad is = from_last ∙ ap (λ r. persons_from (number + 1) r []) (is number)

shorter_step : (c : ℕ) (text : List ℕ) (p : List ℕ × List ℕ)
    → ((q : List ℕ × List ℕ) → parted 10 text ≡ Some q → length q.1 < length text) → (o : Option (List ℕ × List ℕ))
    → parted 10 text ≡ o → (b : Bool) → cond b (Some ([], text)) (pushed c o) ≡ Some p → length p.1 < length text + 1
shorter_step c text p known o is true e =
    let f : ([], text) ≡ p = cc in omega (arith, ap (λ (q : List ℕ × List ℕ). length q.1) f)
shorter_step c text p known None is false e = absurd (cc)
shorter_step c text p known (Some q) is false e =
    let f : (c ∷ q.0, q.1) ≡ p = cc in omega (arith, known q is, ap (λ (r : List ℕ × List ℕ). length r.1) f)

shorter_at : (text : List ℕ) (p : List ℕ × List ℕ) → parted 10 text ≡ Some p → length p.1 < length text
shorter_at [] p e = absurd (cc)
shorter_at (c ∷ text) p e =
    omega (arith, shorter_step c text p (shorter_at text) (parted 10 text) refl (c == 10) e)

pub shorter : (left line rest : List ℕ) → Some (line, rest) ≡ parted 10 left → length rest < length left
shorter left line rest e = shorter_at left (line, rest) (sym e)
