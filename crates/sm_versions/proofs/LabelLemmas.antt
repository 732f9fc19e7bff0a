-- Pairs of labels and ids.
use Rattle.std.proofs.Common.{◌≡◌, ℕ, ◌+◌, ◌<◌, Bool, true, false, not, ◌&&◌, cond, List, [], ◌∷◌, ◌++◌, length, get_or, take, refl, ap, ◌∙◌, arith}
use Rattle.std.specs.List.{filter, find, count_by}
use Rattle.std.specs.Option.{option_map}
use Rattle.std.proofs.lemmas.List.{take_more, append-nil}
use Rattle.std.proofs.lemmas.List.Recursion.{is_count_by}
use Rattle.std.proofs.lemmas.Grind.{common_steps}
use Rattle.sm_model.specs.declared.rows.Pair.{Pair}
use Rattle.sm_versions.specs.Texts.{is_among, is_aws}
use Rattle.sm_base.specs.Texts.{same_text}
use Rattle.sm_model.specs.Labels.{aws_current, holder}
use Rattle.sm_versions.specs.Labels.{without, with_current, place, place_each, place_all, others, firsts, labels_on, own_count}
use Rattle.sm_versions.proofs.TextLemmas.{same_text_itself, same_text_tells}

-- the pairs without a label are those that don't have it
pub without_is_filter : (pairs : List Pair) (label : List ℕ)
    → filter (λ p. not (same_text p.label label)) pairs ≡ without pairs label
without_is_filter [] label = refl
without_is_filter (p ∷ ps) label = grind (arith, without_is_filter ps label)

-- the holder is the id in the first pair with the label
pub holder_is_find : (pairs : List Pair) (label : List ℕ)
    → holder pairs label ≡ option_map (λ p. p.id) (find (λ p. same_text p.label label) pairs)
holder_is_find [] label = refl
holder_is_find (p ∷ ps) label = grind (arith, holder_is_find ps label)

own_step : (aws : Bool) (n : ℕ) → cond aws n (n + 1) ≡ cond (not aws) (1 + n) n
own_step true n = refl
own_step false n = omega arith

-- the count of labels of one's own
pub own_count_is_count : (pairs : List Pair) → own_count pairs ≡ count_by (λ p. not (is_aws p.label)) pairs
own_count_is_count pairs =
    is_count_by own_count (λ p. not (is_aws p.label)) refl (λ p ps. own_step (is_aws p.label) (own_count ps)) pairs

pub labels_on-append : (ps qs : List Pair) (id : List ℕ) → labels_on (ps ++ qs) id ≡ labels_on ps id ++ labels_on qs id
labels_on-append [] qs id = refl
labels_on-append (p ∷ ps) qs id = grind (arith, common_steps, labels_on-append ps qs id)

-- one pair more, as at a step of a loop
pub labels_on_more : (pairs : List Pair) (i : ℕ) (p : Pair) (id : List ℕ) → i < length pairs → p ≡ get_or pairs i p
    → labels_on (take (i + 1) pairs) id ≡ cond (same_text p.id id) (labels_on (take i pairs) id ++ p.label ∷ [])
    (labels_on (take i pairs) id)
labels_on_more pairs i p id h e =
    let t : take (i + 1) pairs ≡ take i pairs ++ p ∷ [] = grind (arith, take_more pairs i p h) in
    rw t (rw (labels_on-append (take i pairs) (p ∷ []) id) (grind (arith, append-nil (labels_on (take i pairs) id))))

pub others-append : (ts us : List (List ℕ)) (t : List ℕ) → others (ts ++ us) t ≡ others ts t ++ others us t
others-append [] us t = refl
others-append (x ∷ ts) us t = grind (arith, common_steps, others-append ts us t)

-- one text more at the end
pub firsts_push : (ts : List (List ℕ)) (t : List ℕ)
    → firsts (ts ++ t ∷ []) ≡ cond (is_among ts t) (firsts ts) (firsts ts ++ t ∷ [])
firsts_push [] t = refl
firsts_push (x ∷ ts) t =
    grind (
      arith,
      common_steps,
      firsts_push ts t,
      others-append (firsts ts) (t ∷ []) x,
      same_text_tells x t,
      same_text_tells t x,
    )

pub place_each-append : (pairs : List Pair) (ls ms : List (List ℕ)) (id : List ℕ)
    → place_each pairs (ls ++ ms) id ≡ place_each (place_each pairs ls id) ms id
place_each-append pairs [] ms id = refl
place_each-append pairs (l ∷ ls) ms id = place_each-append (place pairs l id) ls ms id

-- the labels but one in the order of first occurrence, after one more at the end
others_firsts_push : (ts : List (List ℕ)) (t u : List ℕ)
    → others (firsts (ts ++ t ∷ [])) u ≡ cond (is_among ts t) (others (firsts ts) u)
    (cond (same_text t u) (others (firsts ts) u) (others (firsts ts) u ++ t ∷ []))
others_firsts_push ts t u =
    grind (
      arith,
      common_steps,
      firsts_push ts t,
      others-append (firsts ts) (t ∷ []) u,
      append-nil
          (others (firsts ts) u),
    )

-- one label more, as at a step of a loop
pub place_others_more : (pairs : List Pair) (labels : List (List ℕ)) (i : ℕ) (l id : List ℕ) → i < length labels
    → l ≡ get_or labels i l
    → place_each pairs (others (firsts (take (i + 1) labels)) aws_current) id
    ≡ cond (not (same_text l aws_current) && not (is_among (take i labels) l))
    (place (place_each pairs (others (firsts (take i labels)) aws_current) id) l id)
    (place_each pairs (others (firsts (take i labels)) aws_current) id)
place_others_more pairs labels i l id h e =
    let t : take (i + 1) labels ≡ take i labels ++ l ∷ [] = grind (arith, take_more labels i l h) in
    rw t (rw (others_firsts_push (take i labels) l aws_current)
    (by (is_among (take i labels) l) (same_text l aws_current)))
  where
    before : List (List ℕ)
    before = others (firsts (take i labels)) aws_current

    by : (b c : Bool) → place_each pairs (cond b before (cond c before (before ++ l ∷ []))) id ≡ cond (not c && not b)
        (place (place_each pairs before id) l id) (place_each pairs before id)
    by true true = refl
    by true false = refl
    by false true = refl
    by false false = place_each-append pairs before (l ∷ []) id

-- AWSCURRENT is placed last
pub place_all_is : (pairs : List Pair) (labels : List (List ℕ)) (id : List ℕ)
    → place_all pairs labels id ≡ cond (is_among labels aws_current)
    (with_current (place_each pairs (others (firsts labels) aws_current) id) id)
    (place_each pairs (others (firsts labels) aws_current) id)
place_all_is pairs labels id = by (is_among labels aws_current)
  where
    before : List (List ℕ)
    before = others (firsts labels) aws_current

    at_current : place (place_each pairs before id) aws_current id ≡ with_current (place_each pairs before id) id
    at_current = rw (same_text_itself aws_current)

    by : (b : Bool) → place_each pairs (before ++ cond b (aws_current ∷ []) []) id ≡ cond b
        (with_current (place_each pairs before id) id) (place_each pairs before id)
    by true = place_each-append pairs before (aws_current ∷ []) id ∙ at_current
    by false = ap (λ ls. place_each pairs ls id) (append-nil before)
