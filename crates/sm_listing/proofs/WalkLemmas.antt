-- Walks over items that stop at the page's end.
use Rattle.std.proofs.Common.{◌≡◌, ℕ, ◌+◌, ◌-◌, ◌<◌, ◌≤◌, Bool, true, false, cond, ltb, List, [], ◌∷◌, ◌++◌, map, reverse, length, get_or, take, drop, Some, refl, sym, ap, ◌∙◌, arith, inl, inr}
use Rattle.std.specs.List.{filter, slice_get}
use Rattle.std.proofs.lemmas.Bool.{le-ltb, lt-ltb, cases_Bool, ltb-true}
use Rattle.std.proofs.lemmas.List.{length-append, length-reverse, map-append, append_assoc, take-append-drop, take_all, take_at, map_push, get_or-reverse, append-nil, length-take-le, get_or-take}
use Rattle.std.proofs.lemmas.List.Elements.{filter-append, filter_more}
use Rattle.std.proofs.lemmas.Option.{slice_get_within, get_or_from_slice_get, slice_get-get_or}
use Rattle.sm_listing.specs.Pages.{ordered, page_of}
use Rattle.sm_listing.specs.Walks.{IsPage, page_shown}

-- ---- items at places

pub place_within : (count : ℕ) (descending : Bool) (step : ℕ) → step < count →
    cond descending (count - 1 - step) step < count
place_within count true step below = omega arith
place_within count false step below = below

-- the item after so many steps stands at the place that is counted from the end that the walk begins at
pub ordered_at : {A : Type 0} (descending : Bool) (items : List A) (step : ℕ) (item : A) → step < length items →
    slice_get items (cond descending (length items - 1 - step) step) ≡ Some item →
    slice_get (ordered descending items) step ≡ Some item
ordered_at true items step item below at =
    let within : step < length (reverse items) = omega (arith, length-reverse items) in
    slice_get-get_or (reverse items) step item within
    ∙ ap Some (get_or-reverse items step item below
    ∙ get_or_from_slice_get items (length items - 1 - step) item item at)
ordered_at false items step item below at = at

-- ---- one step

pub listed_more : {A : Type 0} (f : A → ℕ) (p : A → Bool) (xs : List A) (i : ℕ) (x : A) (out : List ℕ) →
    slice_get xs i ≡ Some x → p x ≡ true → out ≡ map f (filter p (take i xs)) →
    out ++ f x ∷ [] ≡ map f (filter p (take (i + 1) xs))
listed_more f p xs i x out at passes same =
    let within = slice_get_within xs i x at in
    let item = get_or_from_slice_get xs i x x at in
    let further : filter p (take (i + 1) xs) ≡ filter p (take i xs) ++ x ∷ [] =
    filter_more p xs i x within ∙ rw (item, passes) refl in
    rw (further, map_push f (filter p (take i xs)) x, same) refl

pub unlisted_more : {A : Type 0} (f : A → ℕ) (p : A → Bool) (xs : List A) (i : ℕ) (x : A) (out : List ℕ) →
    slice_get xs i ≡ Some x → p x ≡ false → out ≡ map f (filter p (take i xs)) →
    out ≡ map f (filter p (take (i + 1) xs))
unlisted_more f p xs i x out at fails same =
    let within = slice_get_within xs i x at in
    let item = get_or_from_slice_get xs i x x at in
    let further : filter p (take (i + 1) xs) ≡ filter p (take i xs) =
    filter_more p xs i x within ∙ rw (item, fails) (append-nil (filter p (take i xs))) in
    rw further same

-- ---- where the walk ends

-- a further item was met: the page is full
pub page_full : {A : Type 0} (max : ℕ) (f : A → ℕ) (p : A → Bool) (xs : List A) (i : ℕ) (x : A) (out : List ℕ) →
    slice_get xs i ≡ Some x → p x ≡ true → out ≡ map f (filter p (take i xs)) → length out ≡ max →
    IsPage max (map f (filter p xs)) out true
page_full max f p xs i x out at passes same full =
    let rest = map f (filter p (drop (i + 1) xs)) in
    let parted : map f (filter p (take (i + 1) xs ++ drop (i + 1) xs)) ≡ map f (filter p (take (i + 1) xs)) ++ rest =
    rw (
      filter-append p (take (i + 1) xs) (drop (i + 1) xs),
      map-append f (filter p (take (i + 1) xs)) (filter p
          (drop (i + 1) xs)),
    ) refl in
    let whole : map f (filter p xs) ≡ out ++ f x ∷ rest =
    ap (λ ys. map f (filter p ys)) (sym (take-append-drop (i + 1) xs)) ∙ parted
    ∙ ap (λ ys. ys ++ rest) (sym (listed_more f p xs i x out at passes same)) ∙ append_assoc out (f x ∷ []) rest in
    let more : max < length (map f (filter p xs)) = omega (arith, ap length whole, length-append out (f x ∷ rest)) in
    record {
      first = sym (ap (take max) whole ∙ take_at out (f x ∷ rest) max full);
      further = sym (lt-ltb max (length (map f (filter p xs))) more);
    }

there_behind : {A : Type 0} (seen rest : List A) (x : A) → slice_get (seen ++ x ∷ rest) (length seen) ≡ Some x
there_behind [] rest x = refl
there_behind (y ∷ seen) rest x = there_behind seen rest x

-- the same of a walk that was handed its items: some are seen, this one is next, and the others are left
pub page_full_behind : {A : Type 0} (max : ℕ) (f : A → ℕ) (p : A → Bool) (xs seen rest : List A) (x : A)
    (out : List ℕ) → seen ++ x ∷ rest ≡ xs → p x ≡ true → out ≡ map f (filter p seen) → length out ≡ max →
    IsPage max (map f (filter p xs)) out true
page_full_behind max f p xs seen rest x out all passes same full =
    page_full max f p xs (length seen) x out (ap (λ ys. slice_get ys (length seen)) (sym all) ∙ there_behind seen rest
    x)
    passes
    (same ∙ ap (λ ys. map f (filter p ys))
    (sym (take_at seen (x ∷ rest) (length seen) refl) ∙ ap (take (length seen)) all))
    full

-- all items were met
pub page_ends : {A : Type 0} (max : ℕ) (f : A → ℕ) (p : A → Bool) (xs : List A) (i : ℕ) (out : List ℕ) →
    length xs ≤ i → out ≡ map f (filter p (take i xs)) → length out ≤ max → IsPage max (map f (filter p xs)) out false
page_ends max f p xs i out end same few =
    let whole : out ≡ map f (filter p xs) = same ∙ ap (λ ys. map f (filter p ys)) (take_all i xs end) in
    let short : length (map f (filter p xs)) ≤ max = omega (arith, ap length whole) in
    record {
      first = whole ∙ sym (take_all max (map f (filter p xs)) short);
      further = sym (le-ltb max (length (map f (filter p xs))) short);
    }

-- ---- the page

-- the last that is shown is the one before those that follow
last_shown : (max : ℕ) (serials : List ℕ) → 0 < max → max < length serials →
    slice_get (take max serials) (length (take max serials) - 1) ≡ Some (get_or serials (max - 1) 0)
last_shown max serials some more =
    let count : length (take max serials) ≡ max = length-take-le max serials (omega arith) in
    let within : max - 1 < length (take max serials) = omega arith in
    rw count (slice_get-get_or (take max serials) (max - 1) 0 within
    ∙ ap Some (get_or-take max serials (max - 1) 0 (omega arith)))

pub page_is : (letter max : ℕ) (serials shown : List ℕ) (follows : Bool) → 0 < max →
    IsPage max serials shown follows → page_shown letter shown follows ≡ page_of letter max serials
page_is letter max serials shown follows some page =
    elim (cases_Bool (ltb max (length serials))) [
      | inl more ↦
          rw (page.first, page.further, more)
          (rw (last_shown max serials some (ltb-true max (length serials) more)) refl)
      | inr all ↦ rw (page.first, page.further, all) refl
    ]
