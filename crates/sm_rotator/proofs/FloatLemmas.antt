-- Whole numbers in JSON values.
use Rattle.std.proofs.Common.{◌≡◌, ℕ, zero, suc, ◌+◌, ◌<◌, List, [], ◌∷◌, ◌++◌, length, get_or, take, map, Bool, true, false, ◌||◌, Ordering, Less, Equal, Greater, refl, sym, ap, ◌∙◌, arith, add-one}
use Rattle.std.proofs.lemmas.Bool.{or_right}
use Rattle.std.specs.Ordering.{nat_cmp, match_ordering}
use Rattle.std.specs.Cmp.Lexicographic.{slice_cmp}
use Rattle.serde_json.specs.Data.{Data, null, boolean, number, string, array, object, Members, no_members, member, put}
use Rattle.serde_json.specs.View.{view, items_of, items_view, members_view}
use Rattle.serde_json.specs.Written.{has_float, items_have_float, members_have_float}
use Rattle.serde_json.specs.declared.value.Value.{Value}
use Rattle.serde_json.proofs.Views.{Entry}
use Rattle.sm_rotator.specs.Local.{password_name, with_other}

neither : (a b : Bool) → a ≡ false → b ≡ false → (a || b) ≡ false
neither a b p q = ap (λ x. x || b) p ∙ q

none_suc : (xs : List Value) (i : ℕ) (x : Value) → i < length xs → x ≡ get_or xs i x
    → items_have_float (items_of (map view (take i xs))) ≡ false → has_float (view x) ≡ false
    → items_have_float (items_of (map view (take (suc i) xs))) ≡ false
none_suc [] i x h e none whole = absurd (omega arith)
none_suc (y ∷ xs) zero x h e none whole =
    neither (has_float (view y)) false (ap (λ v. has_float (view v)) (sym e) ∙ whole) refl
none_suc (y ∷ xs) (suc i) x h e none whole =
    by (has_float (view y)) refl none (λ all. none_suc xs i x (omega arith) e all whole)
  where
    by : (b : Bool) → b ≡ has_float (view y) → (b || items_have_float (items_of (map view (take i xs)))) ≡ false
        → (items_have_float (items_of (map view (take i xs))) ≡ false
        → items_have_float (items_of (map view (take (suc i) xs))) ≡ false)
        → (has_float (view y) || items_have_float (items_of (map view (take (suc i) xs)))) ≡ false
    by true is all rest = absurd (cc)
    by false is all rest = neither (has_float (view y)) _ (sym is) (rest all)

-- one item more
pub none_more : (xs : List Value) (i : ℕ) (x : Value) → i < length xs → x ≡ get_or xs i x
    → items_have_float (items_of (map view (take i xs))) ≡ false → has_float (view x) ≡ false
    → items_have_float (items_of (map view (take (i + 1) xs))) ≡ false
none_more xs i x h e none whole =
    ap (λ n. items_have_float (items_of (map view (take n xs)))) (add-one i) ∙ none_suc xs i x h e none whole

-- an item that is found
pub some_item : (xs : List Value) (i : ℕ) (x : Value) → i < length xs → x ≡ get_or xs i x
    → has_float (view x) ≡ true → items_have_float (items_view xs) ≡ true
some_item [] i x h e found = absurd (omega arith)
some_item (y ∷ xs) zero x h e found =
    ap (λ b. b || items_have_float (items_view xs)) (ap (λ v. has_float (view v)) (sym e) ∙ found)
some_item (y ∷ xs) (suc i) x h e found =
    or_right (has_float (view y)) _ (some_item xs i x (omega arith) e found)

-- the members behind others
pub members_append : (es fs : List Entry) → members_have_float (members_view (es ++ fs))
    ≡ (members_have_float (members_view es) || members_have_float (members_view fs))
members_append [] fs = refl
members_append (e ∷ es) fs = by (has_float (view e.1)) (members_append es fs)
  where
    by : (b : Bool) → members_have_float (members_view (es ++ fs))
        ≡ (members_have_float (members_view es) || members_have_float (members_view fs))
        → (b || members_have_float (members_view (es ++ fs)))
        ≡ ((b || members_have_float (members_view es)) || members_have_float (members_view fs))
    by true rest = refl
    by false rest = rest

-- an object stays whole with a whole member more
pub put_plain : (name : List ℕ) (value : Data) (members : Members) → has_float value ≡ false
    → members_have_float members ≡ false → members_have_float (put name value members) ≡ false
put_plain name value no_members plain all = neither (has_float value) false plain refl
put_plain name value (member n v members) plain all =
    at_its_place (has_float v) (slice_cmp nat_cmp name n) refl all (put_plain name value members plain)
  where
    at_its_place : (f : Bool) (o : Ordering) → has_float v ≡ f → (f || members_have_float members) ≡ false
        → (members_have_float members ≡ false → members_have_float (put name value members) ≡ false)
        → members_have_float (match_ordering o (member name value (member n v members)) (member n value members)
        (member n v (put name value members))) ≡ false
    at_its_place true o is h more = absurd (let e = h in cc)
    at_its_place false Less is h more = neither (has_float value) (has_float v || members_have_float members) plain
        (neither (has_float v) (members_have_float members) is h)
    at_its_place false Equal is h more = neither (has_float value) (members_have_float members) plain h
    at_its_place false Greater is h more = neither (has_float v) (members_have_float (put name value members)) is
        (more h)

with_other_plain : (password : List ℕ) (json : Data) → has_float json ≡ false
    → has_float (with_other password json) ≡ false
with_other_plain password null h = h
with_other_plain password (boolean b) h = h
with_other_plain password (number n) h = h
with_other_plain password (string s) h = h
with_other_plain password (array items) h = h
with_other_plain password (object members) h = put_plain password_name (string password) members refl h

pub other_plain : (password : List ℕ) (json other : Data) → other ≡ with_other password json
    → has_float json ≡ false → has_float other ≡ false
other_plain password json other e h = ap has_float e ∙ with_other_plain password json h

-- ---- members, one after the other

-- a member that is found
pub some_member : (es : List Entry) (e : Entry) (left all : List Entry) → all ≡ es ++ e ∷ left
    → has_float (view e.1) ≡ true → members_have_float (members_view all) ≡ true
some_member es e left all same found =
    ap (λ fs. members_have_float (members_view fs)) same ∙ members_append es (e ∷ left)
    ∙ or_right (members_have_float (members_view es)) _
    (ap (λ b. b || members_have_float (members_view left)) found)

-- the members with one more
pub none_with : (es : List Entry) (e : Entry) → members_have_float (members_view es) ≡ false
    → has_float (view e.1) ≡ false → members_have_float (members_view (es ++ e ∷ [])) ≡ false
none_with es e none whole =
    members_append es (e ∷ []) ∙ neither (members_have_float (members_view es)) _ none
    (neither (has_float (view e.1)) false whole refl)
