-- Where each character of a text stands: how a character is added, and how a pattern's character goes on.
use Rattle.std.proofs.Common.{◌≡◌, ◌≢◌, ◌⊎◌, inl, inr, ℕ, zero, suc, ◌+◌, ◌-◌, ◌*◌, ◌/◌, ◌%◌, ◌^◌, ◌<◌, ◌≤◌, ◌==◌, ◌&&◌, ◌||◌, Bool, true, false, List, [], ◌∷◌, ◌++◌, length, refl, ap, sym, ◌∙◌, arith, slice_set}
use Rattle.std.proofs.Math.ListN.{replicate}
use Rattle.std.specs.Prelude.{slice_index, slice_index_or, nat_lt}
use Rattle.std.proofs.lemmas.Bool.Decides.{nat_tests}
use Rattle.std.proofs.lemmas.List.{get_or-set_same, get_or-set_other, get_or_append_left, get_or-append_right, get_or-replicate, length-append}
use Rattle.sm_policy.specs.PlaceSets.{has}
use Rattle.sm_policy.specs.Spreads.{low_part, middle_part, high_part, row, AreRows, IsNoted, Spreads, Stand, GoOn}
use Rattle.sm_policy.specs.declared.spread.Spread.{Spread}
use Rattle.sm_policy.proofs.PlaceSetLemmas.{same_or_not, same, not_same, is_same, no_lowest}

below : (a b : ℕ) → a < b → nat_lt a b ≡ true
below a b h = grind (arith, nat_tests)

not_below : (a b : ℕ) → b ≤ a → nat_lt a b ≡ false
not_below a b h = grind (arith, nat_tests)

below_or_not : (a b : ℕ) → (a < b) ⊎ (b ≤ a)
below_or_not a b =
    elim (nat_lt a b) as (λ c. nat_lt a b ≡ c → (a < b) ⊎ (b ≤ a)) [
      | true ↦ λ e. inl (grind (arith, nat_tests))
      | false ↦ λ e. inr (grind (arith, nat_tests))
    ] refl

-- ---- nothing

pub no_place : (place : ℕ) → place < 640 → has (replicate 10 0) place ≡ false
no_place place h = no_lowest (replicate 10 0) (λ k under. get_or-replicate 10 k 0 0 under) place h

no_rows : (part : ℕ → ℕ) → AreRows part [] (replicate 128 (replicate 10 0))
no_rows part value place small h =
    ap (λ words. has words place) (get_or-replicate 128 value (replicate 10 0) [] small) ∙ no_place place h
    ∙ sym (ap (λ b. b && part (slice_index [] place) == value) (not_below place 0 (omega arith)))

pub nothing_spread : (spread : Spread) → spread.low ≡ replicate 128 (replicate 10 0)
    → spread.middle ≡ replicate 128 (replicate 10 0) → spread.high ≡ replicate 128 (replicate 10 0)
    → spread.all ≡ replicate 10 0 → spread.length ≡ 0 → Spreads [] spread
nothing_spread spread low middle high all long = record {
  short = omega arith;
  as_long = long;
  narrow = λ place h. absurd (omega arith);
  low_rows = λ value place small h. ap (λ rows. has (row rows value) place) low ∙ no_rows low_part value place small h;
  middle_rows = λ value place small h.
      ap (λ rows. has (row rows value) place) middle ∙ no_rows middle_part value place small h;
  high_rows = λ value place small h. ap (λ rows. has (row rows value) place) high ∙ no_rows high_part value place
      small h;
  all_places = λ place h. ap (λ words. has words place) all ∙ no_place place h ∙ sym (not_below place 0 (omega arith));
}

-- ---- one place more

pub noted : (rows : List (List ℕ)) (value place : ℕ) (new : List ℕ) → value < length rows
    → ((at : ℕ) → at < 640 → has new at ≡ (at == place || has (row rows value) at))
    → IsNoted rows value place (slice_set rows value new)
noted rows value place new small put other at h under =
    elim (same_or_not other value) [
      | inl here ↦
          ap (λ words. has words at) (ap (row (slice_set rows value new)) here ∙ get_or-set_same rows value new []
          small)
          ∙ put at under
          ∙ ap (λ b. (b && at == place) || has (row rows value) at) (sym (same other value here))
          ∙ ap (λ v. (other == value && at == place) || has (row rows v) at) (sym here)
      | inr apart ↦
          ap (λ words. has words at) (get_or-set_other rows value other new [] apart)
          ∙ sym (ap (λ b. (b && at == place) || has (row rows other) at) (not_same other value apart))
    ]

turned : (a b : ℕ) → (a == b) ≡ (b == a)
turned a b = grind (arith, nat_tests)

last_is : (text : List ℕ) (letter : ℕ) → slice_index (text ++ letter ∷ []) (length text) ≡ letter
last_is [] letter = refl
last_is (c ∷ text) letter = last_is text letter

-- a row with the place behind the text where the character has the value
rows_more : (part : ℕ → ℕ) (text : List ℕ) (letter : ℕ) (rows new : List (List ℕ)) → AreRows part text rows
    → IsNoted rows (part letter) (length text) new → AreRows part (text ++ letter ∷ []) new
rows_more part text letter rows new are one_more value place small h =
    one_more value place small h
    ∙ ap (λ b. (value == part letter && place == length text) || b) (are value place small h)
    ∙ elim (below_or_not place (length text)) [
      | inl before ↦
          ap (λ b. (value == part letter && b) || (nat_lt place (length text) && part (slice_index text place) ==
          value))
          (not_same place (length text) (λ e. absurd (omega (arith, e))))
          ∙ ap (λ b. b || (nat_lt place (length text) && part (slice_index text place) == value))
          (and_false (value == part letter))
          ∙ ap (λ b. b && part (slice_index text place) == value) (below place (length text) before)
          ∙ ap (λ c. part c == value) (sym (get_or_append_left text (letter ∷ []) 0 place before))
          ∙ sym (ap (λ b. b && part (slice_index (text ++ letter ∷ []) place) == value)
          (below place (length (text ++ letter ∷ [])) (omega (arith, before, length-append text (letter ∷ [])))))
      | inr behind ↦
          ap (λ b. (value == part letter && place == length text) || (b && part (slice_index text place) == value))
          (not_below place (length text) behind)
          ∙ sym (or_false (value == part letter && place == length text))
          ∙ elim (same_or_not place (length text)) [
            | inl here ↦
                ap (λ b. value == part letter && b) (same place (length text) here)
                ∙ and_true (value == part letter) ∙ turned value (part letter)
                ∙ ap (λ c. part c == value) (sym (ap (slice_index (text ++ letter ∷ [])) here ∙ last_is text letter))
                ∙ sym (ap (λ b. b && part (slice_index (text ++ letter ∷ []) place) == value)
                (below place (length (text ++ letter ∷ [])) (omega (arith, here, length-append text (letter ∷ [])))))
            | inr apart ↦
                ap (λ b. value == part letter && b) (not_same place (length text) apart)
                ∙ and_false (value == part letter)
                ∙ sym (ap (λ b. b && part (slice_index (text ++ letter ∷ []) place) == value)
                (not_below place (length (text ++ letter ∷ []))
                (omega (arith, behind, apart, length-append text (letter ∷ [])))))
          ]
    ]
  where
    and_false : (b : Bool) → (b && false) ≡ false
    and_false true = refl
    and_false false = refl

    and_true : (b : Bool) → (b && true) ≡ b
    and_true true = refl
    and_true false = refl

    or_false : (b : Bool) → b ≡ (b || false)
    or_false true = refl
    or_false false = refl

all_more : (text : List ℕ) (letter : ℕ) (words new : List ℕ)
    → ((place : ℕ) → place < 640 → has words place ≡ nat_lt place (length text))
    → ((place : ℕ) → place < 640 → has new place ≡ (place == length text || has words place))
    → (place : ℕ) → place < 640 → has new place ≡ nat_lt place (length (text ++ letter ∷ []))
all_more text letter words new are put place h =
    put place h ∙ ap (λ b. place == length text || b) (are place h) ∙ one_more place (length text)
    ∙ ap (nat_lt place) (sym (length-append text (letter ∷ [])))
  where
    one_more : (a n : ℕ) → (a == n || nat_lt a n) ≡ nat_lt a (n + 1)
    one_more a n = grind (arith, nat_tests)

narrow_more : (text : List ℕ) (letter : ℕ) → letter < 2 ^ 21
    → ((place : ℕ) → place < length text → slice_index text place < 2 ^ 21)
    → (place : ℕ) → place < length (text ++ letter ∷ []) → slice_index (text ++ letter ∷ []) place < 2 ^ 21
narrow_more text letter small are place h =
    elim (below_or_not place (length text)) [
      | inl before ↦ omega (arith, are place before, get_or_append_left text (letter ∷ []) 0 place before)
      | inr behind ↦
          let here : place ≡ length text = omega (arith, h, behind, length-append text (letter ∷ [])) in
          omega (arith, small, ap (slice_index (text ++ letter ∷ [])) here ∙ last_is text letter)
    ]

pub added : (text : List ℕ) (letter : ℕ) (spread new : Spread) → letter < 2 ^ 21 → spread.length < 639
    → IsNoted spread.low (letter % 128) spread.length new.low
    → IsNoted spread.middle (letter / 128 % 128) spread.length new.middle
    → IsNoted spread.high (letter / 16384) spread.length new.high
    → ((place : ℕ) → place < 640 → has new.all place ≡ (place == spread.length || has spread.all place))
    → new.length ≡ spread.length + 1 → Spreads text spread → Spreads (text ++ letter ∷ []) new
added text letter spread new small room low middle high all long are = record {
  short = omega (arith, are.as_long, room, length-append text (letter ∷ []));
  as_long = long ∙ ap (λ n. n + 1) are.as_long ∙ sym (length-append text (letter ∷ []));
  narrow = narrow_more text letter small are.narrow;
  low_rows = rows_more low_part text letter spread.low new.low are.low_rows
      (λ value place h k. low value place h k ∙ ap
      (λ n. (value == letter % 128 && place == n) || has (row spread.low value) place) are.as_long);
  middle_rows = rows_more middle_part text letter spread.middle new.middle are.middle_rows
      (λ value place h k. middle value place h k
      ∙ ap (λ n. (value == letter / 128 % 128 && place == n) || has (row spread.middle value) place) are.as_long);
  high_rows = rows_more high_part text letter spread.high new.high are.high_rows
      (λ value place h k. high value place h k
      ∙ ap (λ n. (value == letter / 16384 && place == n) || has (row spread.high value) place) are.as_long);
  all_places = all_more text letter spread.all new.all are.all_places
      (λ place h. all place h ∙ ap (λ n. place == n || has spread.all place) are.as_long);
}

-- ---- the places of a character

same_parts : (a b : ℕ) → a < 2 ^ 21 → b < 2 ^ 21
    → (a % 128 == b % 128 && (a / 128 % 128 == b / 128 % 128 && a / 16384 == b / 16384)) ≡ (b == a)
same_parts a b small narrow =
    elim (same_or_not b a) [
      | inl e ↦ all_same a b e ∙ sym (same b a e)
      | inr apart ↦ not_all (a % 128) (b % 128) (a / 128 % 128) (b / 128 % 128) (a / 16384) (b / 16384)
          (λ e f g. absurd (apart (omega (arith, e, f, g)))) ∙ sym (not_same b a apart)
    ]
  where
    all_same : (a b : ℕ) → b ≡ a
        → (a % 128 == b % 128 && (a / 128 % 128 == b / 128 % 128 && a / 16384 == b / 16384)) ≡ true
    all_same a b e =
        ap (λ c. c && (a / 128 % 128 == b / 128 % 128 && a / 16384 == b / 16384))
        (same (a % 128) (b % 128) (sym (ap (λ n. n % 128) e)))
        ∙ ap (λ c. c && a / 16384 == b / 16384) (same (a / 128 % 128) (b / 128 % 128) (sym (ap (λ n. n / 128 % 128) e)))
        ∙ same (a / 16384) (b / 16384) (sym (ap (λ n. n / 16384) e))

    not_all : (a b c d e f : ℕ) → (a ≡ b → c ≡ d → e ≡ f → true ≡ false) → (a == b && (c == d && e == f)) ≡ false
    not_all a b c d e f apart = grind (arith, nat_tests)

together : (s n x y z : Bool) → (((s && (n && x)) && (n && y)) && (n && z)) ≡ (s && (n && (x && (y && z))))
together true true true true z = refl
together true true true false z = refl
together true true false y z = refl
together true false x y z = refl
together false n x y z = refl

pub stand_here : (text : List ℕ) (spread : Spread) (wanted : ℕ) (set one two new : List ℕ) → Spreads text spread
    → wanted < 2 ^ 21
    → ((place : ℕ) → place < 640 → has one place ≡ (has set place && has (row spread.low (wanted % 128)) place))
    → ((place : ℕ) → place < 640 → has two place ≡
    (has one place && has (row spread.middle (wanted / 128 % 128)) place))
    → ((place : ℕ) → place < 640 → has new place ≡ (has two place && has (row spread.high (wanted / 16384)) place))
    → Stand text wanted set new
stand_here text spread wanted set one two new are small first second third place h =
    let n = nat_lt place (length text) in
    let c = slice_index text place in
    third place h
    ∙ ap (λ b. b && has (row spread.high (wanted / 16384)) place) (second place h
    ∙ ap (λ b. b && has (row spread.middle (wanted / 128 % 128)) place) (first place h
    ∙ ap (λ b. has set place && b) (are.low_rows (wanted % 128) place (omega arith) h))
    ∙ ap (λ b. (has set place && (n && c % 128 == wanted % 128)) && b)
    (are.middle_rows (wanted / 128 % 128) place (omega arith) h))
    ∙ ap (λ b. ((has set place && (n && c % 128 == wanted % 128)) && (n && c / 128 % 128 == wanted / 128 % 128)) && b)
    (are.high_rows (wanted / 16384) place (omega (arith, small)) h)
    ∙ together (has set place) n (c % 128 == wanted % 128) (c / 128 % 128 == wanted / 128 % 128)
    (c / 16384 == wanted / 16384)
    ∙ ap (λ b. has set place && b) (within (below_or_not place (length text)))
  where
    within : (place < length text) ⊎ (length text ≤ place)
        → (nat_lt place (length text) && (slice_index text place % 128 == wanted % 128
        && (slice_index text place / 128 % 128 == wanted / 128 % 128 && slice_index text place / 16384 == wanted /
        16384)))
        ≡ (nat_lt place (length text) && wanted == slice_index text place)
    within (inl before) =
        ap (λ b. nat_lt place (length text) && b)
        (same_parts (slice_index text place) wanted (are.narrow place before) small)
    within (inr behind) =
        ap (λ b. b && (slice_index text place % 128 == wanted % 128
        && (slice_index text place / 128 % 128 == wanted / 128 % 128 && slice_index text place / 16384 == wanted /
        16384)))
        (not_below place (length text) behind)
        ∙ sym (ap (λ b. b && wanted == slice_index text place) (not_below place (length text) behind))

pub stand_nowhere : (text : List ℕ) (spread : Spread) (wanted : ℕ) (set : List ℕ) → Spreads text spread
    → 2 ^ 21 ≤ wanted → Stand text wanted set (replicate 10 0)
stand_nowhere text spread wanted set are great place h =
    no_place place h
    ∙ sym (ap (λ b. has set place && b) (nowhere (below_or_not place (length text))) ∙ and_false (has set place))
  where
    and_false : (b : Bool) → (b && false) ≡ false
    and_false true = refl
    and_false false = refl

    nowhere : (place < length text) ⊎ (length text ≤ place)
        → (nat_lt place (length text) && wanted == slice_index text place) ≡ false
    nowhere (inl before) =
        ap (λ b. nat_lt place (length text) && b)
        (not_same wanted (slice_index text place) (λ e. absurd (omega (arith, e, are.narrow place before, great))))
        ∙ and_false (nat_lt place (length text))
    nowhere (inr behind) = ap (λ b. b && wanted == slice_index text place) (not_below place (length text) behind)

-- ---- going on

module _ (text : List ℕ) (spread : Spread) (wanted : ℕ) (set kept new : List ℕ) (are : Spreads text spread)
    (first : has new 0 ≡ false) (later : (place : ℕ) → place + 1 < 640 → has new (place + 1) ≡ has kept place) where
  pub go_on_any : wanted ≡ 63 → ((place : ℕ) → place < 640 → has kept place ≡ (has set place && has spread.all place))
      → GoOn text wanted set new
  go_on_any any keep = record {
    first = first;
    later = λ place h.
        later place (omega (arith, h, are.short)) ∙ keep place (omega (arith, h, are.short))
        ∙ ap (λ b. has set place && b) (are.all_places place (omega (arith, h, are.short)) ∙ below place (length text) h
        ∙ sym (ap (λ b. b || wanted == slice_index text place) (same wanted 63 any)));
  }

  pub go_on_same : wanted ≢ 63 → Stand text wanted set kept → GoOn text wanted set new
  go_on_same other stand = record {
    first = first;
    later = λ place h.
        later place (omega (arith, h, are.short)) ∙ stand place (omega (arith, h, are.short))
        ∙ ap (λ b. has set place && (b && wanted == slice_index text place)) (below place (length text) h)
        ∙ sym (ap (λ b. has set place && (b || wanted == slice_index text place)) (not_same wanted 63 other));
  }
