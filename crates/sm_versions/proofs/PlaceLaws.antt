-- The places of the labels' versions.
use Rattle.std.proofs.Common.{◌≡◌, ℕ, zero, suc, ◌+◌, ◌<◌, ◌≤◌, Bool, true, false, cond, List, [], ◌∷◌, ◌++◌, length, get_or, take, slice_get, not, ltb, Option, Some, None, refl, sym, ap, ◌∙◌, arith, add-one}
use Rattle.std.specs.List.{position, position_or_len, find}
use Rattle.std.specs.Option.{option_map}
use Rattle.std.proofs.lemmas.List.{take_more}
use Rattle.std.proofs.lemmas.List.Folds.{find_at}
use Rattle.std.proofs.lemmas.List.Quantifiers.{position-Some}
use Rattle.std.proofs.lemmas.List.Recursion.{is_position_or_len}
use Rattle.std.proofs.lemmas.Bool.Decides.{nat_tests}
use Rattle.std.proofs.lemmas.Grind.{common_steps}
use Rattle.sm_model.specs.declared.rows.Pair.{Pair}
use Rattle.sm_model.specs.declared.rows.VersionRow.{VersionRow}
use Rattle.sm_base.specs.Texts.{same_text}
use Rattle.sm_model.specs.Labels.{holder}
use Rattle.sm_versions.specs.Versions.{version_of}
use Rattle.sm_versions.specs.Find.{version_held}
use Rattle.sm_versions.specs.Places.{place_of, each_place}

-- ---- the place of an id

place_is : (versions : List VersionRow) (id : List ℕ)
    → place_of versions id ≡ position_or_len (λ v. same_text v.id id) versions
place_is versions id =
    is_position_or_len (λ vs. place_of vs id) (λ v. same_text v.id id) refl (λ v vs. refl) versions

version_is_find : (versions : List VersionRow) (id : List ℕ)
    → version_of versions id ≡ find (λ v. same_text v.id id) versions
version_is_find [] id = refl
version_is_find (v ∷ vs) id = grind (arith, version_is_find vs id)

-- the version at the place of an id
version_at_place : (versions : List VersionRow) (id : List ℕ)
    → slice_get versions (place_of versions id) ≡ version_of versions id
version_at_place versions id =
    ap (slice_get versions) (place_is versions id) ∙ sym (find_at (λ v. same_text v.id id) versions)
    ∙ sym (version_is_find versions id)

pub place_found : (versions : List VersionRow) (id : List ℕ) (place : ℕ)
    → position (λ v. same_text v.id id) versions ≡ Some place → place_of versions id ≡ place
place_found versions id place found =
    by (position_or_len (λ v. same_text v.id id) versions) (place_is versions id) found
  where
    by : (n : ℕ) → place_of versions id ≡ n → position (λ v. same_text v.id id) versions ≡ Some place
        → place_of versions id ≡ place
    by n e f = grind (arith, nat_tests, place_is versions id)

pub place_past : (versions : List VersionRow) (id : List ℕ) → position (λ v. same_text v.id id) versions ≡ None
    → place_of versions id ≡ length versions
place_past versions id none = grind (arith, nat_tests, place_is versions id, past versions)
  where
    past : (vs : List VersionRow) → position_or_len (λ v. same_text v.id id) vs ≤ length vs
    past [] = omega arith
    past (v ∷ vs) = grind (arith, common_steps, past vs)

-- ---- the places of all labels

each_place-append : (versions : List VersionRow) (ps qs : List Pair)
    → each_place versions (ps ++ qs) ≡ each_place versions ps ++ each_place versions qs
each_place-append versions [] qs = refl
each_place-append versions (p ∷ ps) qs = ap (λ rest. place_of versions p.id ∷ rest) (each_place-append versions ps qs)

-- one pair more, as at a step of a loop
pub each_place_more : (versions : List VersionRow) (pairs : List Pair) (i : ℕ) (p : Pair) → i < length pairs
    → p ≡ get_or pairs i p
    → each_place versions (take (i + 1) pairs) ≡ each_place versions (take i pairs) ++ place_of versions p.id ∷ []
each_place_more versions pairs i p h e =
    let t : take (i + 1) pairs ≡ take i pairs ++ p ∷ [] = grind (arith, take_more pairs i p h) in
    ap (each_place versions) t ∙ each_place-append versions (take i pairs) (p ∷ [])

pub places_count : (versions : List VersionRow) (pairs : List Pair)
    → length (each_place versions pairs) ≡ length pairs
places_count versions [] = refl
places_count versions (p ∷ ps) = ap suc (places_count versions ps)

-- ---- the version of a label

absent : (versions : List VersionRow) (pairs : List Pair) (label : List ℕ)
    → length pairs ≤ position_or_len (λ p. same_text p.label label) pairs → version_held versions (holder pairs label)
    ≡ None
absent versions [] label past = refl
absent versions (p ∷ ps) label past = by (same_text p.label label) past (absent versions ps label)
  where
    by : (b : Bool)
        → length (p ∷ ps) ≤ cond (not b) (1 + position_or_len (λ q. same_text q.label label) ps) 0
        → (length ps ≤ position_or_len (λ q. same_text q.label label) ps
        → version_held versions (holder ps label) ≡ None)
        → version_held versions (cond b (Some p.id) (holder ps label)) ≡ None
    by true past rest = absurd (omega arith)
    by false past rest = rest (omega arith)

-- no pair has the label
pub labelled_none : (versions : List VersionRow) (pairs : List Pair) (label : List ℕ)
    → position (λ p. same_text p.label label) pairs ≡ None → version_held versions (holder pairs label) ≡ None
labelled_none versions pairs label none =
    let past : length pairs ≤ position_or_len (λ p. same_text p.label label) pairs = grind (arith, nat_tests) in
    absent versions pairs label past

-- the place of the first pair that has it leads to its version
pub labelled_at : (versions : List VersionRow) (pairs : List Pair) (label : List ℕ) (i place : ℕ)
    → position (λ p. same_text p.label label) pairs ≡ Some i → place ≡ get_or (each_place versions pairs) i 0
    → version_held versions (holder pairs label) ≡ slice_get versions place
labelled_at versions pairs label i place found e =
    let first = position-Some (λ p. same_text p.label label) pairs i (record { label = []; id = [] }) found in
    from pairs i first.0 first.2 first.1 e
  where
    from : (ps : List Pair) (i : ℕ) → i < length ps
        → ((k : ℕ) → k < i → same_text (get_or ps k (record { label = []; id = [] })).label label ≡ false)
        → same_text (get_or ps i (record { label = []; id = [] })).label label ≡ true
        → place ≡ get_or (each_place versions ps) i 0
        → version_held versions (holder ps label) ≡ slice_get versions place
    from [] i lt before here e = absurd (omega arith)
    from (p ∷ ps) zero lt before here e = rw here
        (sym (version_at_place versions p.id) ∙ ap (slice_get versions) (sym e))
    from (p ∷ ps) (suc i) lt before here e =
        rw (before 0 (omega arith)) (from ps i (omega arith) (λ k g. before (suc k) (omega arith)) here e)

-- and there is such a place
pub labelled_past : (versions : List VersionRow) (pairs : List Pair) (label : List ℕ) (i : ℕ)
    → position (λ p. same_text p.label label) pairs ≡ Some i → length (each_place versions pairs) ≤ i
    → version_held versions (holder pairs label) ≡ None
labelled_past versions pairs label i found past =
    let first = position-Some (λ p. same_text p.label label) pairs i (record { label = []; id = [] }) found in
    absurd (omega (arith, first.0, places_count versions pairs))
