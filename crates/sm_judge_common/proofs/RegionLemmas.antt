-- Replica regions: some more, and what they keep.
use Rattle.std.proofs.Common.{◌≡◌, ℕ, ◌+◌, ◌<◌, ◌≤◌, leb, Bool, true, false, cond, List, [], ◌∷◌, ◌++◌, length, length-append, map, take, get_or, IsTrue, refl, sym, ap, ◌∙◌, arith}
use Rattle.std.specs.List.{list_all}
use Rattle.std.proofs.lemmas.Bool.{and_parts, and_from, leb-true, le-leb}
use Rattle.std.proofs.lemmas.List.{take_more, map-append}
use Rattle.std.proofs.lemmas.List.Folds.{list_all-append}
use Rattle.sm_base.specs.declared.limits.TheConstants.{REGIONS_LIMIT}
use Rattle.sm_versions.specs.Regions.{is_region, are_regions}
use Rattle.sm_versions.specs.Texts.{is_among}
use Rattle.sm_judge_common.specs.Regions.{with_region, with_regions, region_status, region_statuses}

-- ---- as the loops make them

taken_more : (xs : List (List ℕ)) (i : ℕ) (x : List ℕ) → i < length xs → x ≡ get_or xs i x
    → take (i + 1) xs ≡ take i xs ++ x ∷ []
taken_more xs i x lt is = take_more xs i x lt ∙ ap (λ y. take i xs ++ y ∷ []) (sym is)

with_regions-append : (kept given more : List (List ℕ))
    → with_regions kept (given ++ more) ≡ with_regions (with_regions kept given) more
with_regions-append kept [] more = refl
with_regions-append kept (region ∷ regions) more = with_regions-append (with_region kept region) regions more

-- one region more is given
pub with_regions_more : (kept given : List (List ℕ)) (i : ℕ) (region : List ℕ) → i < length given
    → region ≡ get_or given i region
    → with_regions kept (take (i + 1) given) ≡ with_region (with_regions kept (take i given)) region
with_regions_more kept given i region lt is =
    ap (with_regions kept) (taken_more given i region lt is)
    ∙ with_regions-append kept (take i given) (region ∷ [])

-- one region more is shown
pub statuses_more : (regions : List (List ℕ)) (i : ℕ) (region : List ℕ) → i < length regions
    → region ≡ get_or regions i region
    → region_statuses (take (i + 1) regions) ≡ region_statuses (take i regions) ++ region_status region ∷ []
statuses_more regions i region lt is =
    ap region_statuses (taken_more regions i region lt is)
    ∙ map-append region_status (take i regions) (region ∷ [])

-- ---- what they keep

with_region_each : (kept : List (List ℕ)) (region : List ℕ) → list_all is_region kept ≡ true
    → is_region region ≡ true → list_all is_region (with_region kept region) ≡ true
with_region_each kept region each new = by (is_among kept region)
  where
    by : (b : Bool) → list_all is_region (cond b kept (kept ++ region ∷ [])) ≡ true
    by true = each
    by false = list_all-append is_region kept (region ∷ []) ∙ and_from _ _ each (and_from _ _ new refl)

-- each of them names a region, where those do that were there and those that are given
pub with_regions_each : (kept given : List (List ℕ)) → list_all is_region kept ≡ true
    → list_all is_region given ≡ true → list_all is_region (with_regions kept given) ≡ true
with_regions_each kept [] each new = each
with_regions_each kept (region ∷ regions) each new =
    let parts = and_parts (is_region region) (list_all is_region regions) new in
    with_regions_each (with_region kept region) regions (with_region_each kept region each parts.0) parts.1

with_region_count : (kept : List (List ℕ)) (region : List ℕ) → length (with_region kept region) ≤ length kept + 1
with_region_count kept region = by (is_among kept region)
  where
    by : (b : Bool) → length (cond b kept (kept ++ region ∷ [])) ≤ length kept + 1
    by true = omega arith
    by false = omega (arith, length-append kept (region ∷ []))

with_regions_count : (kept given : List (List ℕ)) → length (with_regions kept given) ≤ length kept + length given
with_regions_count kept [] = omega arith
with_regions_count kept (region ∷ regions) =
    omega (arith, with_regions_count (with_region kept region) regions, with_region_count kept region)

-- what is said of regions, part by part
pub few_regions : (regions : List (List ℕ)) → IsTrue (are_regions regions) → length regions ≤ REGIONS_LIMIT
few_regions regions are =
    leb-true (length regions) REGIONS_LIMIT
    (and_parts (leb (length regions) REGIONS_LIMIT) (list_all is_region regions) are).0

pub each_region : (regions : List (List ℕ)) → IsTrue (are_regions regions) → list_all is_region regions ≡ true
each_region regions are = (and_parts (leb (length regions) REGIONS_LIMIT) (list_all is_region regions) are).1

pub regions_from : (regions : List (List ℕ)) → length regions ≤ REGIONS_LIMIT → list_all is_region regions ≡ true
    → IsTrue (are_regions regions)
regions_from regions few each = and_from _ _ (le-leb (length regions) REGIONS_LIMIT few) each

-- those of a new secret are as they have to be, where those are that are given
pub new_regions : (given : List (List ℕ)) → IsTrue (are_regions given) → IsTrue (are_regions (with_regions [] given))
new_regions given are =
    regions_from (with_regions [] given)
    (omega (arith, with_regions_count [] given, few_regions given are))
    (with_regions_each [] given refl (each_region given are))
