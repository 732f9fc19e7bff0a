-- A pattern is matched at some marked places of a text: what each of its characters makes of the marks.
use Rattle.std.proofs.Common.{◌≡◌, ◌≢◌, ℕ, zero, suc, ◌+◌, ◌<◌, ◌≤◌, ◌==◌, ◌&&◌, ◌||◌, Bool, true, false, List, [], ◌∷◌, length, refl, ap, sym, ◌∙◌, arith}
use Rattle.std.specs.Prelude.{nat_le, slice_index}
use Rattle.std.proofs.lemmas.Bool.Decides.{nat_tests}
use Rattle.sm_policy.specs.Patterns.{some_end, first_then, is_empty, wild}
use Rattle.sm_policy.proofs.MatchLemmas.{star_is, one_is}

-- the text passes from some marked place on
abbrev pub some_mark : (ℕ → Bool) → (List ℕ → Bool) → List ℕ → Bool
some_mark marks test [] = marks 0 && test []
some_mark marks test (c ∷ text) = (marks 0 && test (c ∷ text)) || some_mark (λ place. marks (suc place)) test text

-- the same of those behind the first
abbrev later_mark : (ℕ → Bool) → (List ℕ → Bool) → List ℕ → Bool
later_mark marks test [] = false
later_mark marks test (c ∷ text) = some_mark (λ place. marks (suc place)) test text

or_false : (b : Bool) → b ≡ (b || false)
or_false true = refl
or_false false = refl

first_or_later : (marks : ℕ → Bool) (test : List ℕ → Bool) (text : List ℕ)
    → some_mark marks test text ≡ ((marks 0 && test text) || later_mark marks test text)
first_or_later marks test [] = or_false (marks 0 && test [])
first_or_later marks test (c ∷ text) = refl

pub same_marks : (marks others : ℕ → Bool) (test : List ℕ → Bool) (text : List ℕ)
    → ((place : ℕ) → place ≤ length text → marks place ≡ others place)
    → some_mark marks test text ≡ some_mark others test text
same_marks marks others test [] same = ap (λ b. b && test []) (same 0 (omega arith))
same_marks marks others test (c ∷ text) same =
    ap (λ b. (b && test (c ∷ text)) || some_mark (λ place. marks (suc place)) test text) (same 0 (omega arith))
    ∙ ap (λ b. (others 0 && test (c ∷ text)) || b)
    (same_marks (λ place. marks (suc place)) (λ place. others (suc place)) test text
    (λ place under. same (suc place) (omega arith)))

same_test : (marks : ℕ → Bool) (test other : List ℕ → Bool) (text : List ℕ)
    → ((t : List ℕ) → test t ≡ other t) → some_mark marks test text ≡ some_mark marks other text
same_test marks test other [] same = ap (λ b. marks 0 && b) (same [])
same_test marks test other (c ∷ text) same =
    ap (λ b. (marks 0 && b) || some_mark (λ place. marks (suc place)) test text) (same (c ∷ text))
    ∙ ap (λ b. (marks 0 && other (c ∷ text)) || b) (same_test (λ place. marks (suc place)) test other text same)

pub no_mark : (marks : ℕ → Bool) (test : List ℕ → Bool) (text : List ℕ)
    → ((place : ℕ) → place ≤ length text → marks place ≡ false) → some_mark marks test text ≡ false
no_mark marks test [] none = ap (λ b. b && test []) (none 0 (omega arith))
no_mark marks test (c ∷ text) none =
    ap (λ b. (b && test (c ∷ text)) || some_mark (λ place. marks (suc place)) test text) (none 0 (omega arith))
    ∙ no_mark (λ place. marks (suc place)) test text (λ place under. none (suc place) (omega arith))

-- ---- the first place

pub first_mark : (marks : ℕ → Bool) (test : List ℕ → Bool) (text : List ℕ) → marks 0 ≡ true
    → ((place : ℕ) → place < length text → marks (suc place) ≡ false) → some_mark marks test text ≡ test text
first_mark marks test [] first none = ap (λ b. b && test []) first
first_mark marks test (c ∷ text) first none =
    ap (λ b. (b && test (c ∷ text)) || some_mark (λ place. marks (suc place)) test text) first
    ∙ ap (λ b. test (c ∷ text) || b)
    (no_mark (λ place. marks (suc place)) test text (λ place under. none place (omega arith)))
    ∙ sym (or_false (test (c ∷ text)))

-- ---- a character that is no `*`

and_false : (b : Bool) → (b && false) ≡ false
and_false true = refl
and_false false = refl

and_three : (a b c : Bool) → (a && (b && c)) ≡ ((a && b) && c)
and_three true b c = refl
and_three false b c = refl

on_by_one : (marks new : ℕ → Bool) (p : ℕ) (test : List ℕ → Bool) (text : List ℕ)
    → ((place : ℕ) → place < length text → new (suc place) ≡ (marks place && (p == 63 || p == slice_index text place)))
    → some_mark marks (first_then p test) text ≡ later_mark new test text
on_by_one marks new p test [] on = and_false (marks 0)
on_by_one marks new p test (c ∷ text) on =
    ap (λ b. (marks 0 && ((p == 63 || p == c) && test text)) || b)
    (on_by_one (λ place. marks (suc place)) (λ place. new (suc place)) p test text
    (λ place under. on (suc place) (omega arith)))
    ∙ ap (λ b. b || later_mark (λ place. new (suc place)) test text)
    (and_three (marks 0) (p == 63 || p == c) (test text)
    ∙ ap (λ b. b && test text) (sym (on 0 (omega arith))))
    ∙ sym (first_or_later (λ place. new (suc place)) test text)

pub past_one : (marks new : ℕ → Bool) (p : ℕ) (rest text : List ℕ) → p ≢ 42 → new 0 ≡ false
    → ((place : ℕ) → place < length text → new (suc place) ≡ (marks place && (p == 63 || p == slice_index text place)))
    → some_mark marks (wild (p ∷ rest)) text ≡ some_mark new (wild rest) text
past_one marks new p rest text other first on =
    same_test marks (wild (p ∷ rest)) (first_then p (wild rest)) text (λ t. one_is p rest t other)
    ∙ on_by_one marks new p (wild rest) text on
    ∙ sym (first_or_later new (wild rest) text ∙ ap (λ b. (b && wild rest text) || later_mark new (wild rest) text)
    first)

-- ---- a `*`

implied : (a b : Bool) → (b ≡ true → a ≡ true) → (a || b) ≡ a
implied true b h = refl
implied false true h = sym (h refl)
implied false false h = refl

or_right : (a b : Bool) → b ≡ true → (a || b) ≡ true
or_right true b h = refl
or_right false b h = h

some_end_there : (marks : ℕ → Bool) (test : List ℕ → Bool) (text : List ℕ)
    → some_mark marks (some_end test) text ≡ true → some_end test text ≡ true
some_end_there marks test [] h = second (marks 0) (test []) h
  where
    second : (a b : Bool) → (a && b) ≡ true → b ≡ true
    second true b h = h
    second false b h = absurd (cc)
some_end_there marks test (c ∷ text) h =
    either (marks 0) (some_end test (c ∷ text)) (some_mark (λ place. marks (suc place)) (some_end test) text) h
    (λ k. or_right (test (c ∷ text)) (some_end test text) (some_end_there (λ place. marks (suc place)) test text k))
  where
    either : (a b c : Bool) → ((a && b) || c) ≡ true → (c ≡ true → b ≡ true) → b ≡ true
    either true true c h f = refl
    either true false c h f = f h
    either false b c h f = f h

from_first : (marks : ℕ → Bool) (test : List ℕ → Bool) (text : List ℕ) → marks 0 ≡ true
    → some_mark marks (some_end test) text ≡ some_end test text
from_first marks test [] first = ap (λ b. b && test []) first
from_first marks test (c ∷ text) first =
    ap (λ b. (b && some_end test (c ∷ text)) || some_mark (λ place. marks (suc place)) (some_end test) text) first
    ∙ implied (some_end test (c ∷ text)) (some_mark (λ place. marks (suc place)) (some_end test) text)
    (λ k. or_right (test (c ∷ text)) (some_end test text) (some_end_there (λ place. marks (suc place)) test text k))

all_marks : (marks : ℕ → Bool) (test : List ℕ → Bool) (text : List ℕ) → ((place : ℕ) → marks place ≡ true)
    → some_mark marks test text ≡ some_end test text
all_marks marks test [] all = ap (λ b. b && test []) (all 0)
all_marks marks test (c ∷ text) all =
    ap (λ b. (b && test (c ∷ text)) || some_mark (λ place. marks (suc place)) test text) (all 0)
    ∙ ap (λ b. test (c ∷ text) || b) (all_marks (λ place. marks (suc place)) test text (λ place. all (suc place)))

from_zero : (place : ℕ) → nat_le 0 place ≡ true
from_zero place = grind (arith, nat_tests)

not_yet : (low : ℕ) → nat_le (suc low) 0 ≡ false
not_yet low = grind (arith, nat_tests)

one_less : (low place : ℕ) → nat_le (suc low) (suc place) ≡ nat_le low place
one_less low place = grind (arith, nat_tests)

from_lowest : (marks : ℕ → Bool) (low : ℕ) (test : List ℕ → Bool) (text : List ℕ) → marks low ≡ true
    → ((place : ℕ) → place < low → marks place ≡ false)
    → some_mark marks (some_end test) text ≡ some_mark (λ place. nat_le low place) test text
from_lowest marks zero test text there none =
    from_first marks test text there ∙ sym (all_marks (λ place. nat_le 0 place) test text from_zero)
from_lowest marks (suc low) test [] there none =
    ap (λ b. b && test []) (none 0 (omega arith)) ∙ sym (ap (λ b. b && test []) (not_yet low))
from_lowest marks (suc low) test (c ∷ text) there none =
    ap (λ b. (b && some_end test (c ∷ text)) || some_mark (λ place. marks (suc place)) (some_end test) text)
    (none 0 (omega arith))
    ∙ from_lowest (λ place. marks (suc place)) low test text there (λ place under. none (suc place) (omega arith))
    ∙ same_marks (λ place. nat_le low place) (λ place. nat_le (suc low) (suc place)) test text
    (λ place under. sym (one_less low place))
    ∙ sym (ap (λ b. (b && test (c ∷ text)) || some_mark (λ place. nat_le (suc low) (suc place)) test text)
    (not_yet low))

pub past_star : (marks new : ℕ → Bool) (low : ℕ) (rest text : List ℕ) → marks low ≡ true
    → ((place : ℕ) → place < low → marks place ≡ false)
    → ((place : ℕ) → place ≤ length text → new place ≡ nat_le low place)
    → some_mark marks (wild (42 ∷ rest)) text ≡ some_mark new (wild rest) text
past_star marks new low rest text there none filled =
    same_test marks (wild (42 ∷ rest)) (some_end (wild rest)) text (star_is rest)
    ∙ from_lowest marks low (wild rest) text there none
    ∙ sym (same_marks new (λ place. nat_le low place) (wild rest) text filled)

-- ---- the end of the pattern

at_nothing : (text : List ℕ) → wild [] text ≡ is_empty text
unfolding wild
at_nothing text = refl

and_true : (b : Bool) → (b && true) ≡ b
and_true true = refl
and_true false = refl

pub at_end : (marks : ℕ → Bool) (text : List ℕ) → some_mark marks (wild []) text ≡ marks (length text)
at_end marks [] = ap (λ b. marks 0 && b) (at_nothing []) ∙ and_true (marks 0)
at_end marks (c ∷ text) =
    ap (λ b. (marks 0 && b) || some_mark (λ place. marks (suc place)) (wild []) text) (at_nothing (c ∷ text))
    ∙ ap (λ b. b || some_mark (λ place. marks (suc place)) (wild []) text) (and_false (marks 0))
    ∙ at_end (λ place. marks (suc place)) text
