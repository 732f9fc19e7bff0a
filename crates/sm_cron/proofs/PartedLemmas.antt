-- Texts parted at their first mark.
use Rattle.std.proofs.Common.{◌≡◌, ℕ, ◌+◌, ◌-◌, ◌<◌, ◌≤◌, true, false, ◌==◌, List, [], ◌∷◌, ◌++◌, length, take, drop, get_or, Option, Some, None, refl, sym, ◌∙◌, ap, inl, inr, arith}
use Rattle.std.proofs.lemmas.Bool.{cases_Bool, eqb-true, eq-eqb, ne_eqb}
use Rattle.std.proofs.lemmas.List.{append-nil, append_assoc, drop_more, drop_all, take_more, take_rest, length-append}
use Rattle.std.proofs.lemmas.Option.{none-some}
use Rattle.std.specs.Option.{option_map}
use Rattle.sm_cron.specs.Languages.{parted}

pub parted_here : (mark byte : ℕ) (rest : List ℕ) → (byte == mark) ≡ true → parted mark (byte ∷ rest) ≡ Some ([], rest)
unfolding parted
parted_here mark byte rest is = rw is refl

pub parted_on : (mark byte : ℕ) (rest : List ℕ) → (byte == mark) ≡ false
    → parted mark (byte ∷ rest) ≡ option_map (λ parts. (byte ∷ parts.0, parts.1)) (parted mark rest)
unfolding parted
parted_on mark byte rest other = rw other refl

pub parted_none : (mark : ℕ) → parted mark [] ≡ None
unfolding parted
parted_none mark = refl

-- what is put before a part
abbrev pub with_front : List ℕ → Option (List ℕ × List ℕ) → Option (List ℕ × List ℕ)
with_front front o = option_map (λ parts. (front ++ parts.0, parts.1)) o

with_front_on : (front : List ℕ) (byte : ℕ) (o : Option (List ℕ × List ℕ))
    → with_front front (option_map (λ parts. (byte ∷ parts.0, parts.1)) o) ≡ with_front (front ++ byte ∷ []) o
with_front_on front byte None = refl
with_front_on front byte (Some parts) = rw (append_assoc front (byte ∷ []) parts.0) refl

-- a step of the search
pub parted_further : (mark place : ℕ) (text : List ℕ) → place < length text → (get_or text place 0 ≡ mark → ⊥)
    → with_front (take place text) (parted mark (drop place text)) ≡ parted mark text
    → with_front (take (place + 1) text) (parted mark (drop (place + 1) text)) ≡ parted mark text
parted_further mark place text within other so_far =
    let byte : ℕ = get_or text place 0 in
    let here : parted mark (drop place text)
    ≡ option_map (λ parts. (byte ∷ parts.0, parts.1)) (parted mark (drop (place + 1) text)) =
    ap (λ t. parted mark t) (drop_more text place 0 within)
    ∙ parted_on mark byte (drop (place + 1) text) (ne_eqb byte mark other) in
    ap (λ t. with_front t (parted mark (drop (place + 1) text))) (take_more text place 0 within)
    ∙ sym (with_front_on (take place text) byte (parted mark (drop (place + 1) text)))
    ∙ ap (λ o. with_front (take place text) o) (sym here) ∙ so_far

pub parted_at : (mark place : ℕ) (text : List ℕ) → place < length text → get_or text place 0 ≡ mark
    → with_front (take place text) (parted mark (drop place text)) ≡ parted mark text
    → Some (take place text, take (length text - (place + 1)) (drop (place + 1) text)) ≡ parted mark text
parted_at mark place text within same so_far =
    let byte : ℕ = get_or text place 0 in
    let here : parted mark (drop place text) ≡ Some ([], drop (place + 1) text) =
    ap (λ t. parted mark t) (drop_more text place 0 within)
    ∙ parted_here mark byte (drop (place + 1) text) (eq-eqb byte mark same) in
    rw (take_rest text (place + 1))
    (ap (λ t. pair t (drop (place + 1) text)) (sym (append-nil (take place text)))
    ∙ ap (λ o. with_front (take place text) o) (sym here) ∙ so_far)
  where
    pair : List ℕ → List ℕ → Option (List ℕ × List ℕ)
    pair before behind = Some (before, behind)

pub parted_ended : (mark place : ℕ) (text : List ℕ) → length text ≤ place
    → with_front (take place text) (parted mark (drop place text)) ≡ parted mark text → None ≡ parted mark text
parted_ended mark place text past so_far =
    let here : parted mark (drop place text) ≡ None =
    ap (λ t. parted mark t) (drop_all place text past) ∙ parted_none mark in
    ap (λ o. with_front (take place text) o) (sym here) ∙ so_far

-- ---- the parts of a text that goes on

abbrev pub parted_with : ℕ → List ℕ → List ℕ → Option (List ℕ × List ℕ) → Option (List ℕ × List ℕ)
parted_with mark front rest None = with_front front (parted mark rest)
parted_with mark front rest (Some parts) = Some (parts.0, parts.1 ++ rest)

pub parted_more : (mark : ℕ) (front rest : List ℕ)
    → parted mark (front ++ rest) ≡ parted_with mark front rest (parted mark front)
parted_more mark [] rest = rw (parted_none mark) (same (parted mark rest))
  where
    same : (o : Option (List ℕ × List ℕ)) → o ≡ with_front [] o
    same None = refl
    same (Some parts) = refl
parted_more mark (byte ∷ front) rest = elim (cases_Bool (byte == mark)) [
  | inl here ↦ rw (parted_here mark byte (front ++ rest) here, parted_here mark byte front here) refl
  | inr other ↦
      rw (parted_on mark byte (front ++ rest) other, parted_on mark byte front other, parted_more mark front rest)
      (by (parted mark front))
]
  where
    front_more : (o : Option (List ℕ × List ℕ))
        → option_map (λ parts. (byte ∷ parts.0, parts.1)) (with_front front o) ≡ with_front (byte ∷ front) o
    front_more None = refl
    front_more (Some parts) = refl

    by : (o : Option (List ℕ × List ℕ))
        → option_map (λ parts. (byte ∷ parts.0, parts.1)) (parted_with mark front rest o)
        ≡ parted_with mark (byte ∷ front) rest (option_map (λ parts. (byte ∷ parts.0, parts.1)) o)
    by None = front_more (parted mark rest)
    by (Some parts) = refl

-- parts that a mark joins
pub parted_joined : (mark : ℕ) (before behind : List ℕ) → parted mark before ≡ None
    → parted mark (before ++ mark ∷ behind) ≡ Some (before, behind)
parted_joined mark before behind none =
    parted_more mark before (mark ∷ behind)
    ∙ rw (none, parted_here mark mark behind (eq-eqb mark mark refl), append-nil before) refl

-- a text is its parts and the mark between
pub parted_is : (mark : ℕ) (text before behind : List ℕ) → parted mark text ≡ Some (before, behind)
    → text ≡ before ++ mark ∷ behind
parted_is mark [] before behind is = absurd (none-some (before, behind) (sym (parted_none mark) ∙ is))
parted_is mark (byte ∷ rest) before behind is = elim (cases_Bool (byte == mark)) [
  | inl here ↦
      let parts = some_parts ([], rest) (before, behind) (sym (parted_here mark byte rest here) ∙ is) in
      rw (eqb-true byte mark here) (ap (λ t. t ++ mark ∷ rest) parts.0 ∙ ap (λ t. before ++ mark ∷ t) parts.1)
  | inr other ↦
      by (λ x y e. parted_is mark rest x y e) (parted mark rest) refl (sym (parted_on mark byte rest other) ∙ is)
]
  where
    some_parts : (a b : List ℕ × List ℕ) → Some a ≡ Some b → (a.0 ≡ b.0) × (a.1 ≡ b.1)
    some_parts a b e = (let same : a ≡ b = cc in (ap (λ p. p.0) same, ap (λ p. p.1) same))

    by : ((x y : List ℕ) → parted mark rest ≡ Some (x, y) → rest ≡ x ++ mark ∷ y)
        → (o : Option (List ℕ × List ℕ)) → parted mark rest ≡ o
        → option_map {U = List ℕ × List ℕ} (λ parts. (byte ∷ parts.0, parts.1)) (parted mark rest) ≡ Some
        (before, behind)
        → byte ∷ rest ≡ before ++ mark ∷ behind
    by further None none same = absurd (none-some (before, behind) (rw none at same))
    by further (Some inner) found same =
        let parts = some_parts (byte ∷ inner.0, inner.1) (before, behind) (rw found at same) in
        ap (λ t. byte ∷ t) (further inner.0 inner.1 found)
        ∙ ap (λ t. t ++ mark ∷ inner.1) parts.0 ∙ ap (λ t. before ++ mark ∷ t) parts.1

-- two texts without the mark, and a byte that isn't it
pub unparted_append : (mark : ℕ) (one other : List ℕ) → parted mark one ≡ None → parted mark other ≡ None
    → parted mark (one ++ other) ≡ None
unparted_append mark one other first second = parted_more mark one other ∙ rw (first, second) refl

pub unparted_on : (mark byte : ℕ) (rest : List ℕ) → (byte == mark) ≡ false → parted mark rest ≡ None
    → parted mark (byte ∷ rest) ≡ None
unparted_on mark byte rest other none = parted_on mark byte rest other ∙ rw none refl

-- a text without a mark stays so without its beginning
pub unparted_behind : (mark : ℕ) (one other : List ℕ) → parted mark (one ++ other) ≡ None → parted mark other ≡ None
unparted_behind mark one other none = by (parted mark one) refl
  where
    inner : (o : Option (List ℕ × List ℕ)) → with_front one o ≡ None → o ≡ None
    inner None e = refl
    inner (Some parts) e = absurd (none-some (one ++ parts.0, parts.1) (sym e))

    by : (o : Option (List ℕ × List ℕ)) → parted mark one ≡ o → parted mark other ≡ None
    by None first = inner (parted mark other) (let e = sym (parted_more mark one other) ∙ none in rw first at e)
    by (Some parts) first =
        absurd (none-some (parts.0, parts.1 ++ other)
        (let e = sym none ∙ parted_more mark one other in rw first at e))

-- what stands behind a mark is shorter
pub parted_shorter : (mark : ℕ) (text before behind : List ℕ) → Some (before, behind) ≡ parted mark text
    → length behind < length text
parted_shorter mark text before behind is =
    omega (arith, ap length (parted_is mark text before behind (sym is)), length-append before (mark ∷ behind))
