-- The values of filters, one filter after the other.
use Rattle.std.proofs.Common.{◌≡◌, ℕ, ◌+◌, ◌<◌, ◌≤◌, Bool, true, false, List, [], ◌∷◌, length, get_or, ◌++◌, take, drop, refl, ap, sym, ◌∙◌, arith}
use Rattle.std.specs.List.{list_any, list_all}
use Rattle.std.proofs.lemmas.List.{length-take, length-drop, length-append, get_or-take, get_or-drop, take_more, take_at, drop_at, take-append-drop, append_assoc, append-nil}
use Rattle.std.proofs.lemmas.List.Folds.{list_any_more, list_any_at, list_all_more}
use Rattle.sm_model.specs.declared.request.Filter.{Filter}
use Rattle.sm_listing.specs.Beginnings.{values_of}

-- ---- values one after the other

-- the values from a place on, up to the one behind some
pub holds_here : (p : List ℕ → Bool) (values : List (List ℕ)) (first count i : ℕ) → first + count ≤ length values →
    i < count → true ≡ p (get_or values (first + i) []) → true ≡ list_any p (take count (drop first values))
holds_here p values first count i within below holds =
    let here : get_or (take count (drop first values)) i [] ≡ get_or values (first + i) [] =
    get_or-take count (drop first values) i [] below ∙ get_or-drop first values i [] in
    let reach : i < length (take count (drop first values)) =
    omega (arith, length-take count (drop first values), length-drop first values) in
    sym (list_any_at p (take count (drop first values)) i [] reach (rw here (sym holds)))

pub holds_not : (p : List ℕ → Bool) (values : List (List ℕ)) (first count i : ℕ) → first + count ≤ length values →
    i < count → false ≡ p (get_or values (first + i) []) → list_any p (take i (drop first values)) ≡ false →
    list_any p (take (i + 1) (drop first values)) ≡ false
holds_not p values first count i within below fails none =
    let here : p (get_or (drop first values) i []) ≡ false = rw (get_or-drop first values i []) (sym fails) in
    list_any_more p (drop first values) i [] (omega (arith, length-drop first values)) ∙ rw (none, here) refl

-- ---- the values of filters

values_both : (front behind : List Filter) → values_of (front ++ behind) ≡ values_of front ++ values_of behind
values_both [] behind = refl
values_both (filter ∷ front) behind =
    ap (λ (values : List (List ℕ)). filter.values ++ values) (values_both front behind)
    ∙ sym (append_assoc filter.values (values_of front) (values_of behind))

pub values_more : (filters : List Filter) (i : ℕ) (filter : Filter) → i < length filters →
    filter ≡ get_or filters i filter → values_of (take (i + 1) filters) ≡ values_of (take i filters) ++ filter.values
values_more filters i filter below is =
    ap values_of (take_more filters i filter below ∙ ap (λ (f : Filter). take i filters ++ f ∷ []) (sym is))
    ∙ values_both (take i filters) (filter ∷ [])
    ∙ ap (λ (values : List (List ℕ)). values_of (take i filters) ++ values) (append-nil filter.values)

values_split : (filters : List Filter) (i : ℕ) (filter : Filter) → i < length filters →
    filter ≡ get_or filters i filter →
    values_of filters ≡ values_of (take i filters) ++ (filter.values ++ values_of (drop (i + 1) filters))
values_split filters i filter below is =
    ap values_of (sym (take-append-drop (i + 1) filters))
    ∙ values_both (take (i + 1) filters) (drop (i + 1) filters)
    ∙ ap (λ (values : List (List ℕ)). values ++ values_of (drop (i + 1) filters))
    (values_more filters i filter below is)
    ∙ append_assoc (values_of (take i filters)) filter.values (values_of (drop (i + 1) filters))

pub values_count : (filters : List Filter) (i first : ℕ) (filter : Filter) → i < length filters →
    filter ≡ get_or filters i filter → first ≡ length (values_of (take i filters)) →
    first + length filter.values ≡ length (values_of (take (i + 1) filters))
values_count filters i first filter below is so_far =
    omega (
      arith,
      so_far,
      ap length (values_more filters i filter below is),
      length-append (values_of (take i filters)) filter.values,
    )

pub all_more : (p : Filter → Bool) (filters : List Filter) (i : ℕ) (filter : Filter) → i < length filters →
    filter ≡ get_or filters i filter → p filter ≡ true → list_all p (take i filters) ≡ true →
    list_all p (take (i + 1) filters) ≡ true
all_more p filters i filter below is holds so_far =
    let here : p (get_or filters i filter) ≡ true = ap p (sym is) ∙ holds in
    list_all_more p filters i filter below ∙ rw (so_far, here) refl

pub values_end : (filters : List Filter) (i : ℕ) (filter : Filter) → i < length filters →
    filter ≡ get_or filters i filter →
    length (values_of (take i filters)) + length filter.values ≤ length (values_of filters)
values_end filters i filter below is =
    omega (
      arith,
      ap length (values_split filters i filter below is),
      length-append (values_of (take i filters)) (filter.values ++ values_of (drop (i + 1) filters)),
      length-append filter.values (values_of (drop (i + 1) filters)),
    )

pub values_at : (filters : List Filter) (i : ℕ) (filter : Filter) → i < length filters →
    filter ≡ get_or filters i filter →
    take (length filter.values) (drop (length (values_of (take i filters))) (values_of filters)) ≡ filter.values
values_at filters i filter below is =
    let behind = filter.values ++ values_of (drop (i + 1) filters) in
    rw (
      values_split filters i filter below is,
      drop_at (values_of (take i filters)) behind (length (values_of (take i filters))) refl,
    ) (take_at filter.values (values_of (drop (i + 1) filters)) (length filter.values) refl)
