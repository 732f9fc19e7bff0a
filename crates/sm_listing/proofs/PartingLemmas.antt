-- A value and a text that part from a third one: whether the text begins as the value.
use Rattle.std.proofs.Common.{◌≡◌, ◌≢◌, ℕ, zero, suc, ◌+◌, ◌<◌, ◌≤◌, Bool, true, false, not, ◌&&◌, nat_eq, nat_le, ◌==◌, List, [], ◌∷◌, length, get_or, refl, ap, sym, ◌∙◌, arith}
use Rattle.std.specs.List.{starts_with}
use Rattle.std.proofs.lemmas.Bool.{false≢true}
use Rattle.std.proofs.lemmas.Bool.Decides.{nat_tests}
use Rattle.std.proofs.lemmas.List.{get_or-map, length-map}
use Rattle.sm_listing.specs.declared.beginnings.Parted.{Parted}
use Rattle.sm_listing.specs.Beginnings.{alike, beginning_of, next_of, parting, partings_with, partings_among, beginning_at, ends_within, goes_along}
use Rattle.sm_listing.proofs.AlikeLemmas.{alike_within, alike_within_other, alike_turned, alike_one_more, alike_parts, alike_through, alike_parted, begins_alike}

-- ---- how a text goes on

pub next_here : (text : List ℕ) (n : ℕ) → n < length text → get_or text n 0 + 1 ≡ next_of text n
next_here [] n below = absurd (omega arith)
next_here (byte ∷ bytes) zero below = refl
next_here (byte ∷ bytes) (suc n) below = next_here bytes n (omega arith)

pub next_end : (text : List ℕ) (n : ℕ) → length text ≤ n → 0 ≡ next_of text n
next_end [] n end = refl
next_end (byte ∷ bytes) zero end = absurd (omega arith)
next_end (byte ∷ bytes) (suc n) end = next_end bytes n (omega arith)

next_some : (text : List ℕ) (n : ℕ) → next_of text n ≢ 0 → n < length text
next_some [] n some = absurd (some refl)
next_some (byte ∷ bytes) zero some = omega arith
next_some (byte ∷ bytes) (suc n) some = let further = next_some bytes n some in omega arith

next_none : (text : List ℕ) (n : ℕ) → next_of text n ≡ 0 → length text ≤ n
next_none [] n none = omega arith
next_none (byte ∷ bytes) zero none = absurd (omega arith)
next_none (byte ∷ bytes) (suc n) none = let further = next_none bytes n none in omega arith

-- ---- how any two values part

pub row_at : (values : List (List ℕ)) (among : List (List Parted)) (one : ℕ) → among ≡ partings_among values values →
    one < length values → get_or among one [] ≡ partings_with (beginning_at values one) values
row_at values among one is here =
    rw is (get_or-map (λ (value : List ℕ). partings_with (beginning_of value) values) values one [] [] here)

pub among_count : (values : List (List ℕ)) (among : List (List Parted)) → among ≡ partings_among values values →
    length among ≡ length values
among_count values among is =
    rw is (length-map values (λ (value : List ℕ). partings_with (beginning_of value) values))

pub row_count : (values : List (List ℕ)) (past : List ℕ) → length (partings_with past values) ≡ length values
row_count values past = length-map values (λ (value : List ℕ). parting past (beginning_of value))

pub parting_at : (values : List (List ℕ)) (past : List ℕ) (place : ℕ) (d : Parted) → place < length values →
    get_or (partings_with past values) place d ≡ parting past (beginning_at values place)
parting_at values past place d here =
    get_or-map (λ (value : List ℕ). parting past (beginning_of value)) values place [] d here

-- ---- a value and a text that part from a third

-- both have so many bytes alike with it
both_alike : (past value text : List ℕ) (n : ℕ) → n ≤ alike past value → n ≤ alike past text → n ≤ alike text value
both_alike past value text n first second =
    alike_through text past value n (omega (arith, alike_turned text past)) first

-- the value parts from it earlier
parts_earlier : (past value text : List ℕ) → alike past value < alike past text →
    alike text value ≡ alike past value
parts_earlier past value text earlier =
    alike_parted text past value (alike past text) (omega (arith, alike_turned text past)) earlier

-- the text parts from it earlier
parts_later : (past value text : List ℕ) → alike past text < alike past value → alike text value ≡ alike past text
parts_later past value text later =
    alike_turned text value
    ∙ alike_parted value past text (alike past value) (omega (arith, alike_turned value past)) later

-- it has the whole value alike
begins_whole : (text value : List ℕ) → length value ≤ alike text value → starts_with nat_eq text value ≡ true
begins_whole text value whole =
    let within = alike_within_other text value in
    let same : nat_eq (alike text value) (length value) ≡ true = grind (arith, nat_tests) in
    begins_alike text value ∙ same

begins_part : (text value : List ℕ) → alike text value < length value → starts_with nat_eq text value ≡ false
begins_part text value short =
    let same : nat_eq (alike text value) (length value) ≡ false = grind (arith, nat_tests) in
    begins_alike text value ∙ same

ends_parts : (value text : Parted) → ends_within value text ≡ true → (value.next ≡ 0) × (value.bytes ≤ text.bytes)
ends_parts value text ends = by (nat_eq value.next 0) (nat_le value.bytes text.bytes) refl refl ends
  where
    by : (none within : Bool) → nat_eq value.next 0 ≡ none → nat_le value.bytes text.bytes ≡ within →
        (none && within) ≡ true → (value.next ≡ 0) × (value.bytes ≤ text.bytes)
    by true true first second both =
        let zeroth : value.next ≡ 0 = grind (arith, nat_tests) in
        let least : value.bytes ≤ text.bytes = grind (arith, nat_tests) in (zeroth, least)
    by true false first second both = absurd (false≢true both)
    by false within first second both = absurd (false≢true both)

-- the value ends within what the text has alike with the third: the text begins as it
pub begins_within : (past value text : List ℕ) → true ≡ ends_within (parting past value) (parting past text) →
    starts_with nat_eq text value ≡ true
begins_within past value text ends =
    let parts = ends_parts (parting past value) (parting past text) (sym ends) in
    let whole = next_none value (alike past value) parts.0 in
    let alike_both = both_alike past value text (alike past value) (omega arith) parts.1 in
    begins_whole text value (omega arith)

goes_parts : (value text : Parted) → goes_along value text ≡ true →
    (value.bytes ≡ text.bytes) × (value.next ≡ text.next) × (value.next ≢ 0)
goes_parts value text goes =
    by (nat_eq value.bytes text.bytes) (nat_eq value.next text.next) (nat_eq value.next 0) refl refl refl goes
  where
    by : (here same none : Bool) → nat_eq value.bytes text.bytes ≡ here → nat_eq value.next text.next ≡ same →
        nat_eq value.next 0 ≡ none → (here && same && not none) ≡ true →
        (value.bytes ≡ text.bytes) × (value.next ≡ text.next) × (value.next ≢ 0)
    by true true false first second third all =
        let one : value.bytes ≡ text.bytes = grind (arith, nat_tests) in
        let other : value.next ≡ text.next = grind (arith, nat_tests) in
        let some : value.next ≢ 0 = grind (arith, nat_tests) in (one, other, some)
    by true true true first second third all = absurd (false≢true all)
    by true false none first second third all = absurd (false≢true all)
    by false same none first second third all = absurd (false≢true all)

-- both part from the third at the same place and go on alike: they have the next byte alike too
pub alike_along : (past value text : List ℕ) → true ≡ goes_along (parting past value) (parting past text) →
    alike past text + 1 ≤ alike value text
alike_along past value text goes =
    let parts = goes_parts (parting past value) (parting past text) (sym goes) in
    let n = alike past text in
    let same_place : alike past value ≡ alike past text = parts.0 in
    let going : next_of value n ≡ next_of text n = ap (next_of value) (sym same_place) ∙ parts.1 in
    let some : next_of value n ≢ 0 = λ none. parts.2 (ap (next_of value) same_place ∙ none) in
    let some_text : next_of text n ≢ 0 = λ none. some (going ∙ none) in
    let in_value = next_some value n some in
    let in_text = next_some text n some_text in
    let same : get_or value n 0 ≡ get_or text n 0 =
    omega (arith, next_here value n in_value, next_here text n in_text, going) in
    let test : (get_or value n 0 == get_or text n 0) ≡ true = grind (arith, nat_tests) in
    let alike_both : n ≤ alike value text =
    omega (arith, both_alike past value text n (omega arith) (omega arith), alike_turned text value) in
    alike_one_more value text n alike_both in_value in_text test

-- they part from it at the same place, and go on in different ways
parts_there : (past value text : List ℕ) (n : ℕ) → alike past value ≡ n → alike past text ≡ n → n < length value →
    next_of value n ≢ next_of text n → alike text value < length value
parts_there past value text n one other below apart = by (nat_le (length text) n) refl
  where
    by : (end : Bool) → nat_le (length text) n ≡ end → alike text value < length value
    by true is =
        let ended : length text ≤ n = grind (arith, nat_tests) in
        let within = alike_within text value in omega arith
    by false is =
        let more : n < length text = grind (arith, nat_tests) in
        let unlike : get_or text n 0 ≢ get_or value n 0 =
        λ same. apart (sym (next_here value n below) ∙ ap (λ byte. byte + 1) (sym same) ∙ next_here text n more) in
        let test : (get_or text n 0 == get_or value n 0) ≡ false = grind (arith, nat_tests) in
        let both = both_alike past value text n (omega arith) (omega arith) in
        let here = alike_parts text value n both more below test in omega arith

-- neither: the text doesn't begin as the value
short_of : (past value text : List ℕ) → false ≡ ends_within (parting past value) (parting past text) →
    false ≡ goes_along (parting past value) (parting past text) → alike text value < length value
short_of past value text not_ends not_goes =
    by (nat_eq (next_of value (alike past value)) 0) (nat_le (alike past value) (alike past text))
    (nat_eq (alike past value) (alike past text))
    (nat_eq (next_of value (alike past value)) (next_of text (alike past text))) refl refl refl refl not_ends not_goes
  where
    by : (none within here same : Bool) → nat_eq (next_of value (alike past value)) 0 ≡ none →
        nat_le (alike past value) (alike past text) ≡ within → nat_eq (alike past value) (alike past text) ≡ here →
        nat_eq (next_of value (alike past value)) (next_of text (alike past text)) ≡ same →
        false ≡ (none && within) → false ≡ (here && same && not none) → alike text value < length value
    by true true here same first second third fourth ends goes = absurd (false≢true ends)
    by none false here same first second third fourth ends goes =
        let later : alike past text < alike past value = grind (arith, nat_tests) in
        let is = parts_later past value text later in
        let within = alike_within_other past value in omega arith
    by false true false same first second third fourth ends goes =
        let some : next_of value (alike past value) ≢ 0 = grind (arith, nat_tests) in
        let below = next_some value (alike past value) some in
        let earlier : alike past value < alike past text = grind (arith, nat_tests) in
        let is = parts_earlier past value text earlier in omega arith
    by false true true true first second third fourth ends goes = absurd (false≢true goes)
    by false true true false first second third fourth ends goes =
        let some : next_of value (alike past value) ≢ 0 = grind (arith, nat_tests) in
        let below = next_some value (alike past value) some in
        let there : alike past value ≡ alike past text = grind (arith, nat_tests) in
        let apart : next_of value (alike past value) ≢ next_of text (alike past text) = grind (arith, nat_tests) in
        parts_there past value text (alike past value) refl (sym there) below
        (λ same. apart (same ∙ ap (next_of text) there))

-- ---- the value at a place

at_place : (values : List (List ℕ)) (past : List ℕ) (row : List Parted) (place : ℕ) (d : Parted) →
    row ≡ partings_with past values → place < length values →
    get_or row place d ≡ parting past (beginning_at values place)
at_place values past row place d is below = rw is (parting_at values past place d below)

pub within_at : (values : List (List ℕ)) (past text : List ℕ) (row : List Parted) (here d : Parted) (place : ℕ) →
    row ≡ partings_with past values → here ≡ parting past text → place < length values →
    true ≡ ends_within (get_or row place d) here → starts_with nat_eq text (beginning_at values place) ≡ true
within_at values past text row here d place is named below ends =
    begins_within past (beginning_at values place) text
    (ends ∙ ap (λ p. ends_within p here) (at_place values past row place d is below)
    ∙ ap (λ p. ends_within (parting past (beginning_at values place)) p) named)

pub along_at : (values : List (List ℕ)) (past text : List ℕ) (row : List Parted) (here d : Parted) (place : ℕ) →
    row ≡ partings_with past values → here ≡ parting past text → place < length values →
    true ≡ goes_along (get_or row place d) here → here.bytes ≤ alike (beginning_at values place) text
along_at values past text row here d place is named below goes =
    let along = alike_along past (beginning_at values place) text
    (goes ∙ ap (λ p. goes_along p here) (at_place values past row place d is below)
    ∙ ap (λ p. goes_along (parting past (beginning_at values place)) p) named) in
    omega (arith, along, ap (λ (p : Parted). p.bytes) named)

pub neither_at : (values : List (List ℕ)) (past text : List ℕ) (row : List Parted) (here d : Parted) (place : ℕ) →
    row ≡ partings_with past values → here ≡ parting past text → place < length values →
    false ≡ ends_within (get_or row place d) here → false ≡ goes_along (get_or row place d) here →
    starts_with nat_eq text (beginning_at values place) ≡ false
neither_at values past text row here d place is named below not_ends not_goes =
    let there = at_place values past row place d is below in
    begins_part text (beginning_at values place) (short_of past (beginning_at values place) text
    (not_ends ∙ ap (λ p. ends_within p here) there
    ∙ ap (λ p. ends_within (parting past (beginning_at values place)) p) named)
    (not_goes ∙ ap (λ p. goes_along p here) there
    ∙ ap (λ p. goes_along (parting past (beginning_at values place)) p) named))

-- what the text has alike with the value that it goes along
pub gone_whole : (values : List (List ℕ)) (text beginning : List ℕ) (here : Parted) (place : ℕ) →
    beginning ≡ beginning_at values place → here ≡ parting beginning text → here.bytes ≡ length beginning →
    starts_with nat_eq text (beginning_at values place) ≡ true
gone_whole values text beginning here place is named all =
    let many : here.bytes ≡ alike beginning text = ap (λ (p : Parted). p.bytes) named in
    rw (sym is) (begins_whole text beginning (omega (arith, many, alike_turned text beginning)))

pub gone_part : (values : List (List ℕ)) (text beginning : List ℕ) (here : Parted) (place : ℕ) →
    beginning ≡ beginning_at values place → here ≡ parting beginning text → here.bytes ≢ length beginning →
    starts_with nat_eq text (beginning_at values place) ≡ false
gone_part values text beginning here place is named short =
    let many : here.bytes ≡ alike beginning text = ap (λ (p : Parted). p.bytes) named in
    let within = alike_within beginning text in
    rw (sym is) (begins_part text beginning (omega (arith, many, alike_turned text beginning)))
