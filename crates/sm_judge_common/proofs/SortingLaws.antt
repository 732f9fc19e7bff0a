-- What sorting means, of which `sorted` is one way: the labels of a version are shown in ascending byte order, each as
-- often as it stands.
use Rattle.std.proofs.Common.{◌≡◌, ℕ, Bool, true, false, if◌then◌else◌, List, [], ◌∷◌, refl, sym, ap, subst, ◌∙◌, arith}
use Rattle.std.proofs.lemmas.Cmp.{nat_list_cmp_total}
use Rattle.std.specs.Cmp.Lexicographic.{slice_cmp}
use Rattle.std.proofs.Common.{Ordering, Less, Equal, Greater}
use Rattle.std.specs.Ordering.{nat_cmp, is_le, ordering_reverse}
use Rattle.sm_judge_common.specs.LabelsShown.{text_le, inserted, sorted, Ascending, how_many, SameCounts}

-- of two texts one is at most the other
le_reversed : (o : Ordering) → is_le o ≡ false → is_le (ordering_reverse o) ≡ true
le_reversed Less after = absurd (let h = after in cc)
le_reversed Equal after = absurd (let h = after in cc)
le_reversed Greater after = refl

le_or_ge : (a b : List ℕ) → text_le a b ≡ false → text_le b a ≡ true
le_or_ge a b after = ap is_le (nat_list_cmp_total.antisymm b a) ∙ le_reversed (slice_cmp nat_cmp a b) after

inserted_behind : (u t : List ℕ) (ts : List (List ℕ)) → text_le u t ≡ true → Ascending (u ∷ ts)
    → Ascending (inserted t ts) → Ascending (u ∷ inserted t ts)
inserted_behind u t [] le up rest = (le, tt)
inserted_behind u t (v ∷ ts) le up rest = by (text_le t v) rest
  where
    by : (b : Bool) → Ascending (if b then t ∷ v ∷ ts else v ∷ inserted t ts)
        → Ascending (u ∷ (if b then t ∷ v ∷ ts else v ∷ inserted t ts))
    by true h = (le, h)
    by false h = (up.0, h)

tail_ascends : (t : List ℕ) (ts : List (List ℕ)) → Ascending (t ∷ ts) → Ascending ts
tail_ascends t [] up = tt
tail_ascends t (u ∷ ts) up = up.1

inserted_ascends : (t : List ℕ) (ts : List (List ℕ)) → Ascending ts → Ascending (inserted t ts)
inserted_ascends t [] up = tt
inserted_ascends t (u ∷ ts) up = by (text_le t u) refl (inserted_ascends t ts (tail_ascends u ts up))
  where
    by : (b : Bool) → text_le t u ≡ b → Ascending (inserted t ts)
        → Ascending (if b then t ∷ u ∷ ts else u ∷ inserted t ts)
    by true le more = (le, up)
    by false after more = inserted_behind u t ts (le_or_ge t u after) up more

-- sorted texts ascend
pub sorted_ascends : (ts : List (List ℕ)) → Ascending (sorted ts)
sorted_ascends [] = tt
sorted_ascends (t ∷ ts) = inserted_ascends t (sorted ts) (sorted_ascends ts)

inserted_counts : (test : List ℕ → Bool) (t : List ℕ) (ts : List (List ℕ)) → how_many test (inserted t ts)
    ≡ how_many test (t ∷ ts)
inserted_counts test t [] = refl
inserted_counts test t (u ∷ ts) = by (text_le t u) (inserted_counts test t ts)
  where
    by : (b : Bool) → how_many test (inserted t ts) ≡ how_many test (t ∷ ts)
        → how_many test (if b then t ∷ u ∷ ts else u ∷ inserted t ts) ≡ how_many test (t ∷ u ∷ ts)
    by true more = refl
    by false more = omega (arith, more)

-- and each stands there as often as before, whatever is counted
pub sorted_counts : (test : List ℕ → Bool) (ts : List (List ℕ)) → how_many test (sorted ts) ≡ how_many test ts
sorted_counts test [] = refl
sorted_counts test (t ∷ ts) =
    let one = inserted_counts test t (sorted ts) in
    let more = sorted_counts test ts in omega (arith, one, more)

-- so the labels that are shown ascend, and each stands there as often as on the version
pub shown_ascend : (labels texts : List (List ℕ)) → labels ≡ sorted texts → Ascending labels
shown_ascend labels texts e = subst Ascending (sym e) (sorted_ascends texts)

pub shown_counts : (labels texts : List (List ℕ)) → labels ≡ sorted texts → SameCounts labels texts
shown_counts labels texts e test = ap (how_many test) e ∙ sorted_counts test texts
