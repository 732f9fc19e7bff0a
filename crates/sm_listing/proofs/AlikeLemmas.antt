-- With how many equal bytes two texts begin.
use Rattle.std.proofs.Common.{◌≡◌, ℕ, zero, suc, ◌+◌, ◌-◌, ◌<◌, ◌≤◌, Bool, true, false, cond, ◌&&◌, min, List, [], ◌∷◌, length, get_or, take, drop, nat_eq, ◌==◌, refl, sym, ap, ◌∙◌, arith, add-one, drop-cons}
use Rattle.std.specs.List.{starts_with}
use Rattle.std.specs.Cmp.Lexicographic.{pointwise}
use Rattle.std.proofs.lemmas.Bool.Decides.{nat_tests}
use Rattle.std.proofs.lemmas.List.{length-take-le, length-drop, take_all}
use Rattle.sm_listing.specs.Beginnings.{alike}

pub alike_nothing : (text : List ℕ) → alike text [] ≡ 0
alike_nothing [] = refl
alike_nothing (byte ∷ bytes) = refl

pub alike_within : (text other : List ℕ) → alike text other ≤ length text
alike_within [] other = omega arith
alike_within (x ∷ text) [] = omega arith
alike_within (x ∷ text) (y ∷ other) = by (x == y) (alike_within text other)
  where
    by : (same : Bool) → alike text other ≤ length text → cond same (alike text other + 1) 0 ≤ suc (length text)
    by true within = omega arith
    by false within = omega arith

pub alike_within_other : (text other : List ℕ) → alike text other ≤ length other
alike_within_other [] other = omega arith
alike_within_other (x ∷ text) [] = omega arith
alike_within_other (x ∷ text) (y ∷ other) = by (x == y) (alike_within_other text other)
  where
    by : (same : Bool) → alike text other ≤ length other → cond same (alike text other + 1) 0 ≤ suc (length other)
    by true within = omega arith
    by false within = omega arith

pub alike_turned : (text other : List ℕ) → alike text other ≡ alike other text
alike_turned [] other = sym (alike_nothing other)
alike_turned (x ∷ text) [] = refl
alike_turned (x ∷ text) (y ∷ other) = by (x == y) refl (alike_turned text other)
  where
    by : (same : Bool) → (x == y) ≡ same → alike text other ≡ alike other text →
        cond same (alike text other + 1) 0 ≡ cond (y == x) (alike other text + 1) 0
    by true first rest =
        let turned : (y == x) ≡ true = grind (arith, nat_tests) in rw turned (ap (λ n. n + 1) rest)
    by false first rest = let turned : (y == x) ≡ false = grind (arith, nat_tests) in rw turned refl

-- ---- one byte after the other

drop_one : (text : List ℕ) (n : ℕ) → n < length text → drop n text ≡ get_or text n 0 ∷ drop (n + 1) text
drop_one text n below = rw (add-one n) (drop-cons text n 0 below)

alike_at : (one other : List ℕ) (n : ℕ) → n < length one → n < length other →
    alike (drop n one) (drop n other)
    ≡ cond (get_or one n 0 == get_or other n 0) (alike (drop (n + 1) one) (drop (n + 1) other) + 1) 0
alike_at one other n below within = rw (drop_one one n below, drop_one other n within) refl

-- equal so far, and here they differ
pub alike_apart : (one other : List ℕ) (n : ℕ) → n < length one → n < length other →
    n + alike (drop n one) (drop n other) ≡ alike one other → (get_or one n 0 == get_or other n 0) ≡ false →
    n ≡ alike one other
alike_apart one other n below within known apart =
    let here : alike (drop n one) (drop n other) ≡ 0 = alike_at one other n below within ∙ rw apart refl in omega arith

-- equal so far, and here too
pub alike_next : (one other : List ℕ) (n : ℕ) → n < length one → n < length other →
    n + alike (drop n one) (drop n other) ≡ alike one other → (get_or one n 0 == get_or other n 0) ≡ true →
    n + 1 + alike (drop (n + 1) one) (drop (n + 1) other) ≡ alike one other
alike_next one other n below within known same =
    let here : alike (drop n one) (drop n other) ≡ alike (drop (n + 1) one) (drop (n + 1) other) + 1 =
    alike_at one other n below within ∙ rw same refl in omega arith

-- equal up to the end of the shorter one
pub alike_to_end : (one other : List ℕ) (n : ℕ) → n ≤ length one → n ≤ length other →
    min (length one) (length other) ≤ n → n + alike (drop n one) (drop n other) ≡ alike one other →
    n ≡ alike one other
alike_to_end one other n below within end known =
    let rest = alike_within (drop n one) (drop n other) in
    let rest_other = alike_within_other (drop n one) (drop n other) in
    omega (arith, length-drop n one, length-drop n other)

-- ---- from a place on

-- where both are known to have bytes alike, the rest tells how many
alike_from : (text other : List ℕ) (n : ℕ) → n ≤ alike text other →
    alike text other ≡ n + alike (drop n text) (drop n other)
alike_from text other zero known = omega arith
alike_from [] other (suc n) known = omega arith
alike_from (x ∷ text) [] (suc n) known = omega arith
alike_from (x ∷ text) (y ∷ other) (suc n) known = by (x == y) known (alike_from text other n)
  where
    by : (same : Bool) → suc n ≤ cond same (alike text other + 1) 0 →
        (n ≤ alike text other → alike text other ≡ n + alike (drop n text) (drop n other)) →
        cond same (alike text other + 1) 0 ≡ suc n + alike (drop n text) (drop n other)
    by true known rest = let same = rest (omega arith) in omega arith
    by false known rest = omega arith

-- ---- what two have alike with a third

-- they part behind what they are known to have alike
pub alike_parts : (one other : List ℕ) (n : ℕ) → n ≤ alike one other → n < length one → n < length other →
    (get_or one n 0 == get_or other n 0) ≡ false → n ≡ alike one other
alike_parts one other n known below within apart =
    alike_apart one other n below within (sym (alike_from one other n known)) apart

-- they have the next byte alike too
pub alike_one_more : (one other : List ℕ) (n : ℕ) → n ≤ alike one other → n < length one → n < length other →
    (get_or one n 0 == get_or other n 0) ≡ true → n + 1 ≤ alike one other
alike_one_more one other n known below within same =
    let next = alike_next one other n below within (sym (alike_from one other n known)) same in omega (arith, next)

-- both have so many bytes alike with it: then they have with one another
pub alike_through : (text middle other : List ℕ) (n : ℕ) → n ≤ alike text middle → n ≤ alike middle other →
    n ≤ alike text other
alike_through text middle other zero known further = omega arith
alike_through [] middle other (suc n) known further = omega arith
alike_through (x ∷ text) [] other (suc n) known further = omega arith
alike_through (x ∷ text) (y ∷ middle) [] (suc n) known further = omega arith
alike_through (x ∷ text) (y ∷ middle) (z ∷ other) (suc n) known further =
    by (x == y) (y == z) refl refl known further (alike_through text middle other n)
  where
    by : (same next : Bool) → (x == y) ≡ same → (y == z) ≡ next → suc n ≤ cond same (alike text middle + 1) 0 →
        suc n ≤ cond next (alike middle other + 1) 0 →
        (n ≤ alike text middle → n ≤ alike middle other → n ≤ alike text other) →
        suc n ≤ cond (x == z) (alike text other + 1) 0
    by true true first second known further rest =
        let both : (x == z) ≡ true = grind (arith, nat_tests) in
        let more = rest (omega arith) (omega arith) in rw both (omega arith)
    by true false first second known further rest = omega arith
    by false next first second known further rest = omega arith

-- the middle one parts from the other before it does from the text: so does the text
pub alike_parted : (text middle other : List ℕ) (n : ℕ) → n ≤ alike text middle → alike middle other < n →
    alike text other ≡ alike middle other
alike_parted text middle other zero known parted = omega arith
alike_parted [] middle other (suc n) known parted = omega arith
alike_parted (x ∷ text) [] other (suc n) known parted = omega arith
alike_parted (x ∷ text) (y ∷ middle) [] (suc n) known parted = refl
alike_parted (x ∷ text) (y ∷ middle) (z ∷ other) (suc n) known parted =
    by (x == y) (y == z) refl refl known parted (alike_parted text middle other n)
  where
    by : (same next : Bool) → (x == y) ≡ same → (y == z) ≡ next → suc n ≤ cond same (alike text middle + 1) 0 →
        cond next (alike middle other + 1) 0 < suc n →
        (n ≤ alike text middle → alike middle other < n → alike text other ≡ alike middle other) →
        cond (x == z) (alike text other + 1) 0 ≡ cond next (alike middle other + 1) 0
    by true true first second known parted rest =
        let both : (x == z) ≡ true = grind (arith, nat_tests) in
        let more = rest (omega arith) (omega arith) in rw both (omega arith)
    by true false first second known parted rest =
        let apart : (x == z) ≡ false = grind (arith, nat_tests) in rw apart refl
    by false next first second known parted rest = omega arith

-- ---- beginnings

apart_from_next : (n : ℕ) → nat_eq 0 (suc n) ≡ false
apart_from_next n = grind (arith, nat_tests)

same_next : (m n : ℕ) → nat_eq m n ≡ nat_eq (m + 1) (suc n)
same_next m n = by (nat_eq m n) refl
  where
    by : (same : Bool) → nat_eq m n ≡ same → same ≡ nat_eq (m + 1) (suc n)
    by true here = let next : nat_eq (m + 1) (suc n) ≡ true = grind (arith, nat_tests) in sym next
    by false here = let next : nat_eq (m + 1) (suc n) ≡ false = grind (arith, nat_tests) in sym next

-- a text begins with another where it has all of it alike
pub begins_alike : (text other : List ℕ) → starts_with nat_eq text other ≡ nat_eq (alike text other) (length other)
begins_alike text [] = rw (alike_nothing text) refl
begins_alike [] (y ∷ other) = sym (apart_from_next (length other))
begins_alike (x ∷ text) (y ∷ other) = by (x == y) refl (begins_alike text other)
  where
    by : (same : Bool) → (x == y) ≡ same → starts_with nat_eq text other ≡ nat_eq (alike text other) (length other) →
        nat_eq y x && pointwise nat_eq other (take (length other) text)
        ≡ nat_eq (cond same (alike text other + 1) 0) (suc (length other))
    by true first rest =
        let both : nat_eq y x ≡ true = grind (arith, nat_tests) in
        rw both (rest ∙ same_next (alike text other) (length other))
    by false first rest =
        let apart : nat_eq y x ≡ false = grind (arith, nat_tests) in rw apart (sym (apart_from_next (length other)))

-- what a text has alike with the front of another, it has with the other
pub alike_front : (text other : List ℕ) (n : ℕ) → alike text (take n other) ≤ alike text other
alike_front text other zero = rw (alike_nothing text) (omega arith)
alike_front text [] (suc n) = rw (alike_nothing text) (omega arith)
alike_front [] (y ∷ other) (suc n) = omega arith
alike_front (x ∷ text) (y ∷ other) (suc n) = by (x == y) (alike_front text other n)
  where
    by : (same : Bool) → alike text (take n other) ≤ alike text other →
        cond same (alike text (take n other) + 1) 0 ≤ cond same (alike text other + 1) 0
    by true rest = omega arith
    by false rest = omega arith

-- ---- slices from a place on

rest_whole : (text : List ℕ) (n : ℕ) → take (length text - n) (drop n text) ≡ drop n text
rest_whole text n = take_all (length text - n) (drop n text) (omega (arith, length-drop n text))

-- the next block is equal
pub alike_block : (one other : List ℕ) (n block : ℕ) → n ≤ alike one other → n + block ≤ length other →
    starts_with nat_eq (take (length one - n) (drop n one)) (take (n + block - n) (drop n other)) ≡ true →
    n + block ≤ alike one other
alike_block one other n block known within same =
    let part : n + block - n ≡ block = omega arith in
    let begins : starts_with nat_eq (drop n one) (take block (drop n other)) ≡ true =
    rw (rest_whole one n, part) at same in
    let size : length (take block (drop n other)) ≡ block =
    length-take-le block (drop n other) (omega (arith, length-drop n other)) in
    let all : nat_eq (alike (drop n one) (take block (drop n other))) block ≡ true =
    ap (nat_eq (alike (drop n one) (take block (drop n other)))) (sym size)
    ∙ sym (begins_alike (drop n one) (take block (drop n other))) ∙ begins in
    let front : alike (drop n one) (take block (drop n other)) ≡ block = grind (arith, nat_tests) in
    let more = alike_front (drop n one) (drop n other) block in
    let from = alike_from one other n known in omega arith

-- what two texts have alike from a place on is added to what they have alike up to it
pub alike_rest : (one other : List ℕ) (n : ℕ) → n ≤ alike one other →
    n + alike (take (length one - n) (drop n one)) (take (length other - n) (drop n other)) ≡ alike one other
alike_rest one other n known = rw (rest_whole one n, rest_whole other n) (sym (alike_from one other n known))
