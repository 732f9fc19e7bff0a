-- Items with the serials of a page: how a walk finds them, and which they are where no serial stands twice.
use Rattle.std.proofs.Common.{◌≡◌, ◌≢◌, ℕ, zero, suc, nat_le, ◌+◌, ◌<◌, ◌≤◌, ◌==◌, Bool, true, false, List, [], ◌∷◌, ◌++◌, map, reverse, take, drop, length, get_or, Some, refl, sym, ap, subst, ◌∙◌, inl, inr, arith}
use Rattle.std.specs.List.{filter, slice_get}
use Rattle.std.proofs.lemmas.Bool.{cases_Bool, and_parts, leb-true}
use Rattle.std.proofs.lemmas.Bool.Decides.{nat_tests, eqb_tells}
use Rattle.std.proofs.lemmas.List.{append_assoc, append-nil, length_push, drop_more, drop_all, reverse-append, length-reverse}
use Rattle.std.proofs.lemmas.Option.{slice_get_within, slice_get-get_or, get_or_from_slice_get}
use Rattle.sm_model.specs.declared.rows.Rows.{Rows}
use Rattle.sm_model.specs.declared.rows.SecretRow.{SecretRow}
use Rattle.sm_versions.specs.Serials.{rises}
use Rattle.sm_table.specs.Kept.{row_serials}
use Rattle.sm_table.specs.Sound.{Sound}
use Rattle.sm_listing.specs.Pages.{ordered}
use Rattle.sm_judge_lists_and_passwords.specs.Pages.{picked, row_serial}

eqb_same : (n : ℕ) → (n == n) ≡ true
eqb_same n = grind (arith, nat_tests)

-- ---- a walk

-- the rest of a list from a place on
rest_at : {A : Type 0} (xs : List A) (i : ℕ) (x : A) → slice_get xs i ≡ Some x → drop i xs ≡ x ∷ drop (i + 1) xs
rest_at xs i x at =
    drop_more xs i x (slice_get_within xs i x at) ∙ ap (λ y. y ∷ drop (i + 1) xs) (get_or_from_slice_get xs i x x at)

-- an item with another serial is passed over
passed_over : {A : Type 0} (serial : A → ℕ) (n : ℕ) (ns : List ℕ) (x : A) (xs : List A) → (serial x == n) ≡ false
    → picked serial (n ∷ ns) (x ∷ xs) ≡ picked serial (n ∷ ns) xs
passed_over serial n ns x xs other = rw other refl

-- the item with the next serial is picked
pub picked_hit : {A B : Type 0} (serial : A → ℕ) (f : A → B) (serials : List ℕ) (xs : List A) (i : ℕ) (x : A)
    (out whole : List B) → slice_get xs i ≡ Some x → slice_get serials (length out) ≡ Some (serial x)
    → whole ≡ out ++ map f (picked serial (drop (length out) serials) (drop i xs))
    → whole
    ≡ (out ++ f x ∷ []) ++ map f (picked serial (drop (length (out ++ f x ∷ [])) serials) (drop (i + 1) xs))
picked_hit serial f serials xs i x out whole at next same =
    let rest = picked serial (drop (length out + 1) serials) (drop (i + 1) xs) in
    let one : picked serial (drop (length out) serials) (drop i xs) ≡ x ∷ rest =
    rw (rest_at serials (length out) (serial x) next, rest_at xs i x at, eqb_same (serial x)) refl in
    same ∙ ap (λ ys. out ++ map f ys) one
    ∙ rw (length_push out (f x)) (sym (append_assoc out (f x ∷ []) (map f rest)))

-- another item is not
pub picked_miss : {A B : Type 0} (serial : A → ℕ) (f : A → B) (serials : List ℕ) (xs : List A) (i : ℕ) (x : A)
    (out whole : List B) → slice_get xs i ≡ Some x → (slice_get serials (length out) ≡ Some (serial x) → ⊥)
    → length out < length serials → whole ≡ out ++ map f (picked serial (drop (length out) serials) (drop i xs))
    → whole ≡ out ++ map f (picked serial (drop (length out) serials) (drop (i + 1) xs))
picked_miss serial f serials xs i x out whole at other within same =
    let next = get_or serials (length out) 0 in
    let is_next = slice_get-get_or serials (length out) 0 within in
    let rest = rest_at serials (length out) next is_next in
    let differs : (serial x == next) ≡ false =
    elim (eqb_tells (serial x) next) [
      | inl equal ↦ absurd (other (is_next ∙ ap Some (sym equal.1)))
      | inr unequal ↦ unequal.0
    ] in
    let over : picked serial (drop (length out) serials) (drop i xs)
    ≡ picked serial (drop (length out) serials) (drop (i + 1) xs) =
    rw (rest, rest_at xs i x at)
    (passed_over serial next (drop (length out + 1) serials) x (drop (i + 1) xs) differs) in
    same ∙ ap (λ ys. out ++ map f ys) over

-- at the end of the items nothing more is picked
nothing_left : {A : Type 0} (serial : A → ℕ) (serials : List ℕ) → picked serial serials [] ≡ []
nothing_left serial [] = refl
nothing_left serial (n ∷ ns) = refl

pub picked_end : {A B : Type 0} (serial : A → ℕ) (f : A → B) (serials : List ℕ) (xs : List A) (i : ℕ)
    (out whole : List B) → length xs ≤ i
    → whole ≡ out ++ map f (picked serial (drop (length out) serials) (drop i xs)) → out ≡ whole
picked_end serial f serials xs i out whole end same =
    let none : picked serial (drop (length out) serials) (drop i xs) ≡ [] =
    rw (drop_all i xs end) (nothing_left serial (drop (length out) serials)) in
    sym (same ∙ ap (λ ys. out ++ map f ys) none ∙ append-nil out)

-- nor behind the last serial
pub picked_full : {A B : Type 0} (serial : A → ℕ) (f : A → B) (serials : List ℕ) (xs : List A) (i : ℕ)
    (out whole : List B) → length serials ≤ length out
    → whole ≡ out ++ map f (picked serial (drop (length out) serials) (drop i xs)) → out ≡ whole
picked_full serial f serials xs i out whole full same =
    let none : picked serial (drop (length out) serials) (drop i xs) ≡ [] =
    rw (drop_all (length out) serials full) refl in
    sym (same ∙ ap (λ ys. out ++ map f ys) none ∙ append-nil out)

pub length_ordered : {A : Type 0} (descending : Bool) (xs : List A) → length (ordered descending xs) ≡ length xs
length_ordered true xs = length-reverse xs
length_ordered false xs = refl

-- ---- items of which no two have a serial

-- none of the items has the serial
abbrev pub Lacks : {A : Type 0} → (A → ℕ) → ℕ → List A → Type 0
Lacks serial n [] = Unit {0}
Lacks serial n (x ∷ xs) = (serial x ≢ n) × Lacks serial n xs

abbrev pub Distinct : {A : Type 0} → (A → ℕ) → List A → Type 0
Distinct serial [] = Unit {0}
Distinct serial (x ∷ xs) = Lacks serial (serial x) xs × Distinct serial xs

-- the next serial, if there is one, is another
abbrev pub NextIsNot : ℕ → List ℕ → Type 0
NextIsNot n [] = Unit {0}
NextIsNot n (s ∷ ss) = n ≢ s

skipped : {A : Type 0} (serial : A → ℕ) (ss : List ℕ) (x : A) (xs : List A) → NextIsNot (serial x) ss
    → picked serial ss (x ∷ xs) ≡ picked serial ss xs
skipped serial [] x xs other = refl
skipped serial (s ∷ ss) x xs other =
    elim (eqb_tells (serial x) s) [
      | inl equal ↦ absurd (other equal.1)
      | inr unequal ↦ rw (unequal.0) refl
    ]

-- nor is it that of an item that passes a test
other_next : {A : Type 0} (serial : A → ℕ) (p : A → Bool) (n count : ℕ) (xs : List A) → Lacks serial n xs
    → NextIsNot n (take (suc count) (map serial (filter p xs)))
other_next serial p n count [] lacks = tt
other_next serial p n count (x ∷ xs) lacks =
    elim (cases_Bool (p x)) [
      | inl passes ↦ rw passes (λ same. lacks.0 (sym same))
      | inr fails ↦ rw fails (other_next serial p n count xs lacks.1)
    ]

-- the items with the first serials of those that pass a test are the first of those
pub picked_first : {A : Type 0} (serial : A → ℕ) (p : A → Bool) (count : ℕ) (xs : List A) → Distinct serial xs
    → picked serial (take count (map serial (filter p xs))) xs ≡ take count (filter p xs)
picked_first serial p zero xs distinct = refl
picked_first serial p (suc count) [] distinct = refl
picked_first serial p (suc count) (x ∷ xs) distinct =
    elim (cases_Bool (p x)) [
      | inl passes ↦
          rw passes (rw (eqb_same (serial x)) (ap (λ ys. x ∷ ys) (picked_first serial p count xs distinct.1)))
      | inr fails ↦
          rw fails (skipped serial (take (suc count) (map serial (filter p xs))) x xs
          (other_next serial p (serial x) count xs distinct.0) ∙ picked_first serial p (suc count) xs distinct.1)
    ]

-- ---- in either order

lacks_push : {A : Type 0} (serial : A → ℕ) (n : ℕ) (xs : List A) (y : A) → Lacks serial n xs → serial y ≢ n
    → Lacks serial n (xs ++ y ∷ [])
lacks_push serial n [] y lacks other = (other, tt)
lacks_push serial n (x ∷ xs) y lacks other = (lacks.0, lacks_push serial n xs y lacks.1 other)

distinct_push : {A : Type 0} (serial : A → ℕ) (xs : List A) (y : A) → Distinct serial xs
    → Lacks serial (serial y) xs → Distinct serial (xs ++ y ∷ [])
distinct_push serial [] y distinct lacks = (tt, tt)
distinct_push serial (x ∷ xs) y distinct lacks = (
  lacks_push serial (serial x) xs y distinct.0 (λ same. lacks.0 (sym same)),
  distinct_push serial xs y distinct.1 lacks.1,
)

lacks_reverse : {A : Type 0} (serial : A → ℕ) (n : ℕ) (xs : List A) → Lacks serial n xs → Lacks serial n (reverse xs)
lacks_reverse serial n [] lacks = tt
lacks_reverse serial n (x ∷ xs) lacks =
    subst (Lacks serial n) (sym (reverse-append (x ∷ []) xs))
    (lacks_push serial n (reverse xs) x (lacks_reverse serial n xs lacks.1) lacks.0)

distinct_reverse : {A : Type 0} (serial : A → ℕ) (xs : List A) → Distinct serial xs → Distinct serial (reverse xs)
distinct_reverse serial [] distinct = tt
distinct_reverse serial (x ∷ xs) distinct =
    subst (Distinct serial) (sym (reverse-append (x ∷ []) xs))
    (distinct_push serial (reverse xs) x (distinct_reverse serial xs distinct.1)
    (lacks_reverse serial (serial x) xs distinct.0))

pub distinct_ordered : {A : Type 0} (serial : A → ℕ) (descending : Bool) (xs : List A) → Distinct serial xs
    → Distinct serial (ordered descending xs)
distinct_ordered serial true xs distinct = distinct_reverse serial xs distinct
distinct_ordered serial false xs distinct = distinct

-- ---- rows whose serials rise

lacks_below : (n low next : ℕ) (rows : List SecretRow) → n < low → rises low (row_serials rows) next ≡ true
    → Lacks row_serial n rows
lacks_below n low next [] below rise = tt
lacks_below n low next (row ∷ rows) below rise =
    let parts = and_parts (nat_le low row.serial) (rises (row.serial + 1) (row_serials rows) next) rise in
    let at : low ≤ row.serial = leb-true low row.serial parts.0 in (
      λ same. absurd (omega (arith, same, at)),
      lacks_below n (row.serial + 1) next rows (omega arith) parts.1,
    )

distinct_rows : (low next : ℕ) (rows : List SecretRow) → rises low (row_serials rows) next ≡ true
    → Distinct row_serial rows
distinct_rows low next [] rise = tt
distinct_rows low next (row ∷ rows) rise =
    let parts = and_parts (nat_le low row.serial) (rises (row.serial + 1) (row_serials rows) next) rise in (
      lacks_below row.serial (row.serial + 1) next rows (omega arith) parts.1,
      distinct_rows (row.serial + 1) next rows parts.1,
    )

pub sound_distinct : (rows : Rows) → Sound rows → Distinct row_serial rows.secrets
sound_distinct rows sound = distinct_rows 0 rows.next rows.secrets sound.serials
