-- Texts that differ.
use Rattle.std.proofs.Common.{◌≡◌, ℕ, zero, suc, ◌+◌, ◌<◌, ◌≤◌, Bool, true, false, not, ◌&&◌, ◌||◌, List, [], ◌∷◌, ◌++◌, length, take, drop, slice_get, Some, None, refl, sym, ap, ◌∙◌, arith, add-one}
use Rattle.std.proofs.lemmas.Bool.{and_parts, false≢true}
use Rattle.std.proofs.lemmas.Grind.{common_steps}
use Rattle.sm_base.specs.Texts.{same_text}
use Rattle.sm_model.specs.declared.rows.Pair.{Pair}
use Rattle.sm_model.specs.declared.rows.SecretRow.{SecretRow}
use Rattle.sm_model.specs.declared.rows.VersionRow.{VersionRow}
use Rattle.sm_model.specs.declared.value.Tag.{Tag}
use Rattle.sm_table.specs.Kept.{row_names}
use Rattle.sm_versions.specs.Sound.{tag_keys}
use Rattle.sm_versions.specs.Texts.{is_among, once}
use Rattle.sm_base_check.specs.Tests.{version_ids, pair_labels}
use Rattle.sm_base_check.proofs.SeenLemmas.{flipped}

-- ---- one text more

more_suc : {A : Type 0} (xs : List A) (i : ℕ) (x : A) → slice_get xs i ≡ Some x → take (suc i) xs ≡ take i xs ++ x ∷ []
more_suc [] i x e = absurd (cc)
more_suc (y ∷ xs) zero x e = let same : y ≡ x = cc in ap (λ q. q ∷ []) same
more_suc (y ∷ xs) (suc i) x e = ap (λ qs. y ∷ qs) (more_suc xs i x e)

pub more : {A : Type 0} (xs : List A) (i : ℕ) (x : A) → slice_get xs i ≡ Some x → take (i + 1) xs ≡ take i xs ++ x ∷ []
more xs i x e = rw add-one (more_suc xs i x e)

-- nothing stands at a place from the end on
past : {A : Type 0} (xs : List A) (i : ℕ) → slice_get xs i ≡ None → length xs ≤ i
past [] i e = omega arith
past (x ∷ xs) zero e = absurd (cc)
past (x ∷ xs) (suc i) e = omega (arith, past xs i e)

among_push : (ts : List (List ℕ)) (u t : List ℕ) → is_among (ts ++ u ∷ []) t ≡ (is_among ts t || same_text u t)
among_push [] u t = grind (arith, common_steps)
among_push (x ∷ ts) u t = grind (arith, common_steps, among_push ts u t)

once_push : (ts : List (List ℕ)) (t : List ℕ) → once (ts ++ t ∷ []) ≡ (once ts && not (is_among ts t))
once_push [] t = refl
once_push (x ∷ ts) t =
    rw (among_push ts t x, flipped t x, once_push ts t)
    (by (is_among ts x) (same_text x t) (once ts) (is_among ts t))
  where
    by : (a s o b : Bool) → (not (a || s) && (o && not b)) ≡ ((not a && o) && not (s || b))
    by true s o b = refl
    by false true true b = refl
    by false true false b = refl
    by false false o b = refl

among_front : (ts us : List (List ℕ)) (t : List ℕ) → is_among ts t ≡ true → is_among (ts ++ us) t ≡ true
among_front [] us t e = absurd (false≢true e)
among_front (x ∷ ts) us t e = grind (arith, common_steps, among_front ts us t)

-- the front of texts that differ
once_front : (ts us : List (List ℕ)) → once (ts ++ us) ≡ true → once ts ≡ true
once_front [] us h = refl
once_front (t ∷ ts) us h =
    by (is_among ts t) refl (and_parts (not (is_among (ts ++ us) t)) (once (ts ++ us)) h) (once_front ts us)
  where
    by : (b : Bool) → b ≡ is_among ts t → (not (is_among (ts ++ us) t) ≡ true) × (once (ts ++ us) ≡ true)
        → (once (ts ++ us) ≡ true → once ts ≡ true) → (not b && once ts) ≡ true
    by true e parts rest = absurd (false≢true (ap not (sym (among_front ts us t (sym e))) ∙ parts.0))
    by false e parts rest = rest parts.1

not_true : (b : Bool) → (b ≡ true → false ≡ true) → b ≡ false
not_true true h = sym (h refl)
not_true false h = refl

take_split : {A : Type 0} (i : ℕ) (xs : List A) → xs ≡ take i xs ++ drop i xs
take_split zero xs = refl
take_split (suc i) [] = refl
take_split (suc i) (x ∷ xs) = ap (λ qs. x ∷ qs) (take_split i xs)

module _ (texts : List (List ℕ)) (at : ℕ) (text : List ℕ) (seen : List (List ℕ))
    (is : slice_get texts at ≡ Some text)
    (those : (other : List ℕ) → is_among seen other ≡ is_among (take at texts) other)
    (before : once (take at texts) ≡ true) where
  -- a text that was seen stands twice
  pub again : not (is_among seen text) ≡ false → false ≡ once texts
  again e =
      let twice : once (take at texts ++ text ∷ []) ≡ false =
      once_push (take at texts) text ∙ rw (sym (those text), before, e) refl in
      sym (not_true (once texts) (λ h.
      sym twice ∙ once_front (take at texts ++ text ∷ []) (drop (at + 1) texts)
      (ap once (ap (λ ts. ts ++ drop (at + 1) texts) (sym (more texts at text is)) ∙ sym (take_split (at + 1) texts))
      ∙ h)))

  -- one that is new differs from those before it
  pub still : not (is_among seen text) ≡ true → once (take (at + 1) texts) ≡ true
  still e = ap once (more texts at text is) ∙ once_push (take at texts) text ∙ rw (sym (those text), before, e) refl

  pub with_this : (now : List (List ℕ)) → ((other : List ℕ)
      → is_among now other ≡ (same_text text other || is_among seen other))
      → (other : List ℕ) → is_among now other ≡ is_among (take (at + 1) texts) other
  with_this now h other =
      h other ∙ rw (more texts at text is, among_push (take at texts) text other, those other)
      (or_flip (same_text text other) (is_among (take at texts) other))
    where
      or_flip : (a b : Bool) → (a || b) ≡ (b || a)
      or_flip true true = refl
      or_flip true false = refl
      or_flip false true = refl
      or_flip false false = refl

-- ---- the texts of things

pub name_at : (rows : List SecretRow) (i : ℕ) (x : SecretRow) → slice_get rows i ≡ Some x
    → slice_get (row_names rows) i ≡ Some x.name
name_at [] i x e = absurd (cc)
name_at (y ∷ ys) zero x e = let same : y ≡ x = cc in ap (λ (z : SecretRow). Some z.name) same
name_at (y ∷ ys) (suc i) x e = name_at ys i x e

pub name_count : (rows : List SecretRow) → length (row_names rows) ≡ length rows
name_count [] = refl
name_count (r ∷ rs) = ap suc (name_count rs)

pub name_none : (rows : List SecretRow) (i : ℕ) → slice_get rows i ≡ None → i < length (row_names rows) → ⊥
name_none rows i e lt = omega (arith, lt, name_count rows, past rows i e)

pub id_at : (versions : List VersionRow) (i : ℕ) (x : VersionRow) → slice_get versions i ≡ Some x
    → slice_get (version_ids versions) i ≡ Some x.id
id_at [] i x e = absurd (cc)
id_at (y ∷ ys) zero x e = let same : y ≡ x = cc in ap (λ (z : VersionRow). Some z.id) same
id_at (y ∷ ys) (suc i) x e = id_at ys i x e

pub id_count : (versions : List VersionRow) → length (version_ids versions) ≡ length versions
id_count [] = refl
id_count (v ∷ vs) = ap suc (id_count vs)

pub id_none : (versions : List VersionRow) (i : ℕ) → slice_get versions i ≡ None → i < length (version_ids versions) → ⊥
id_none versions i e lt = omega (arith, lt, id_count versions, past versions i e)

pub label_at : (pairs : List Pair) (i : ℕ) (x : Pair) → slice_get pairs i ≡ Some x
    → slice_get (pair_labels pairs) i ≡ Some x.label
label_at [] i x e = absurd (cc)
label_at (y ∷ ys) zero x e = let same : y ≡ x = cc in ap (λ (z : Pair). Some z.label) same
label_at (y ∷ ys) (suc i) x e = label_at ys i x e

pub label_count : (pairs : List Pair) → length (pair_labels pairs) ≡ length pairs
label_count [] = refl
label_count (p ∷ ps) = ap suc (label_count ps)

pub label_none : (pairs : List Pair) (i : ℕ) → slice_get pairs i ≡ None → i < length (pair_labels pairs) → ⊥
label_none pairs i e lt = omega (arith, lt, label_count pairs, past pairs i e)

pub key_at : (tags : List Tag) (i : ℕ) (x : Tag) → slice_get tags i ≡ Some x → slice_get (tag_keys tags) i ≡ Some x.key
key_at [] i x e = absurd (cc)
key_at (y ∷ ys) zero x e = let same : y ≡ x = cc in ap (λ (z : Tag). Some z.key) same
key_at (y ∷ ys) (suc i) x e = key_at ys i x e

pub key_count : (tags : List Tag) → length (tag_keys tags) ≡ length tags
key_count [] = refl
key_count (t ∷ ts) = ap suc (key_count ts)

pub key_none : (tags : List Tag) (i : ℕ) → slice_get tags i ≡ None → i < length (tag_keys tags) → ⊥
key_none tags i e lt = omega (arith, lt, key_count tags, past tags i e)
