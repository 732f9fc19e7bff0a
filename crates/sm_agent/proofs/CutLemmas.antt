-- Texts that are cut at a mark.
use Rattle.std.proofs.Common.{◌≡◌, ℕ, suc, ◌+◌, ◌-◌, ◌<◌, ◌==◌, ◌||◌, not, cond, Bool, true, false, List, [], ◌∷◌, length, take, drop, Bor, Option, None, Some, MatchOption, IfSome, IfNone, refl, ap, sym, ◌∙◌, arith, length-drop}
use Rattle.std.proofs.Math.ListN.{drop_of_length-le}
use Rattle.std.proofs.lemmas.List.{take_all}
use Rattle.std.proofs.lemmas.List.Splits.{slice_split_first}
use Rattle.std.specs.List.{list_any, before_first, after_first, position_or_len, slice_split, onto_first}
use Rattle.sm_agent.specs.Cuts.{AreAround, pieces}

-- where the first mark is, or the text's length
abbrev place : ℕ → List ℕ → ℕ
place mark text = position_or_len (λ b. b == mark) text

module _ (mark : ℕ) where
  -- its place is within the text where there is one
  placed : (text : List ℕ) → place mark text < length text → list_any (λ b. b == mark) text ≡ true
  placed [] h = absurd (omega arith)
  placed (b ∷ text) h = by (b == mark) (placed text) h
    where
      by : (t : Bool) → (place mark text < length text → list_any (λ b. b == mark) text ≡ true)
          → cond (not t) (1 + place mark text) 0 < suc (length text) → (t || list_any (λ b. b == mark) text) ≡ true
      by true more h = refl
      by false more h = more (omega arith)

  unplaced : (text : List ℕ) → place mark text ≡ length text → list_any (λ b. b == mark) text ≡ false
  unplaced [] h = refl
  unplaced (b ∷ text) h = by (b == mark) (unplaced text) h
    where
      by : (t : Bool) → (place mark text ≡ length text → list_any (λ b. b == mark) text ≡ false)
          → cond (not t) (1 + place mark text) 0 ≡ suc (length text) → (t || list_any (λ b. b == mark) text) ≡ false
      by true more h = absurd (omega arith)
      by false more h = more (omega arith)

  marked : (text : List ℕ) → list_any (λ b. b == mark) text ≡ true → place mark text < length text
  marked [] h = absurd (cc)
  marked (b ∷ text) h = by (b == mark) (marked text) h
    where
      by : (t : Bool) → (list_any (λ b. b == mark) text ≡ true → place mark text < length text)
          → (t || list_any (λ b. b == mark) text) ≡ true → cond (not t) (1 + place mark text) 0 < suc (length text)
      by true more h = omega arith
      by false more h = let rest : place mark text < length text = more h in omega arith

  -- and behind it where there is none
  unmarked : (text : List ℕ) → list_any (λ b. b == mark) text ≡ false → place mark text ≡ length text
  unmarked [] h = refl
  unmarked (b ∷ text) h = by (b == mark) (unmarked text) h
    where
      by : (t : Bool) → (list_any (λ b. b == mark) text ≡ false → place mark text ≡ length text)
          → (t || list_any (λ b. b == mark) text) ≡ false → cond (not t) (1 + place mark text) 0 ≡ suc (length text)
      by true more h = absurd (cc)
      by false more h = let rest : place mark text ≡ length text = more h in omega arith

  -- what a call of `split_once` says
  abbrev pub Split : List ℕ → Option (Bor (List ℕ) × Bor (List ℕ)) → Type 0
  Split text found = MatchOption found (position_or_len (λ b. b == mark) text ≡ length text)
      (λ x. (x.0.now ≡ before_first (λ b. b == mark) text) × (x.1.now ≡ after_first (λ b. b == mark) text)
      × (position_or_len (λ b. b == mark) text < length text))

  pub around : (text : List ℕ) (found : Option (Bor (List ℕ) × Bor (List ℕ))) → Split text found
      → IfSome found (λ x. AreAround mark text x.0.now x.1.now)
  around text None h = tt
  around text (Some x) h = record {
    there = placed text h.2;
    before_it = h.0;
    behind_it = h.1;
    shorter =
        let size : length x.1.now ≡ length text - (place mark text + 1) =
        ap length h.1 ∙ length-drop (place mark text + 1) text in
        omega (arith, h.2);
  }

  pub uncut : (text : List ℕ) (found : Option (Bor (List ℕ) × Bor (List ℕ))) → Split text found
      → IfNone found (list_any (λ b. b == mark) text ≡ false)
  uncut text None h = unplaced text h
  uncut text (Some x) h = tt

  -- the first piece, and those of the rest
  pub first_piece : (text before behind : List ℕ) → AreAround mark text before behind
      → pieces mark text ≡ before ∷ pieces mark behind
  first_piece text before behind a =
      slice_split_first (λ b. b == mark) text 0 (marked text a.there)
      ∙ ap (λ (t : List ℕ). t ∷ slice_split (λ b. b == mark) (after_first (λ b. b == mark) text)) (sym a.before_it)
      ∙ ap (λ (t : List ℕ). before ∷ slice_split (λ b. b == mark) t) (sym a.behind_it)

  -- a text without a mark is its one piece
  pub one_piece : (text : List ℕ) → list_any (λ b. b == mark) text ≡ false → pieces mark text ≡ text ∷ []
  one_piece [] h = refl
  one_piece (b ∷ text) h = by (b == mark) (one_piece text) h
    where
      by : (t : Bool) → (list_any (λ b. b == mark) text ≡ false → pieces mark text ≡ text ∷ [])
          → (t || list_any (λ b. b == mark) text) ≡ false
          → cond t ([] ∷ pieces mark text) (onto_first b (pieces mark text)) ≡ (b ∷ text) ∷ []
      by true more h = absurd (cc)
      by false more h = ap (onto_first b) (more h)

  -- and all of it stands before the mark
  pub all_before : (text : List ℕ) → list_any (λ b. b == mark) text ≡ false
      → text ≡ before_first (λ b. b == mark) text
  all_before text h =
      sym (ap (λ n. take n text) (unmarked text h) ∙ take_all (length text) text (omega arith))

  -- and none of it behind
  pub none_behind : (text : List ℕ) → list_any (λ b. b == mark) text ≡ false → [] ≡ after_first (λ b. b == mark) text
  none_behind text h =
      sym (ap (λ n. drop (n + 1) text) (unmarked text h) ∙ drop_of_length-le text (omega arith))
