-- Texts, and what a JSON value is.
use Rattle.std.proofs.Common.{◌≡◌, ◌↔◌, ◌≢◌, ℕ, List, [], ◌∷◌, length, nat_le, Bool, true, false, ◌||◌, cond, Option, Some, None, option_map, option_and_then, ◌⊎◌, inl, inr, refl, ap, sym, subst, ◌∙◌, ◌≤◌, arith}
use Rattle.std.proofs.lemmas.Bool.Decides.{nat_tests}
use Rattle.std.specs.Cmp.Lexicographic.{bytes_decides}
use Rattle.serde_json.specs.Data as shapes
use Rattle.serde_json.specs.Data.{Data}
use Rattle.serde_json.specs.Find.{as_str, as_array, as_object}
use Rattle.sm_base.specs.Texts.{same_text}
use Rattle.sm_policy_text.specs.Kinds.{text_if, passing, before, all_items, one_or_items, one_or_more, all_members}
use Rattle.sm_policy_laws.specs.Words.{AreEach, AreMembers, IsOneOrMore}
use Rattle.sm_policy_laws.specs.Laws.{IsReadAs}

-- a member is read as a thing, by its name and its value, exactly where it is that thing
abbrev pub IsNamedReadAs : {A : Type 0} → (List ℕ → Data → Option A) → (List ℕ → Data → A → Type 0) → Type 0
IsNamedReadAs {A} reads Is = (name : List ℕ) (value : Data) (x : A) → (reads name value ≡ Some x) ↔ Is name value x

pub same_is : (one other : List ℕ) → same_text one other ≡ true → one ≡ other
unfolding same_text
same_is one other h = (bytes_decides one other).0 h

pub same_as : (one other : List ℕ) → one ≡ other → same_text one other ≡ true
unfolding same_text
same_as one other e = (bytes_decides one other).1 e

pub string_of : (value : Data) (s : List ℕ) → as_str value ≡ Some s → value ≡ shapes.string s
string_of shapes.null s e = absurd (let f = e in cc)
string_of (shapes.boolean b) s e = absurd (let f = e in cc)
string_of (shapes.number n) s e = absurd (let f = e in cc)
string_of (shapes.string t) s e = let f : t ≡ s = cc in ap shapes.string f
string_of (shapes.array items) s e = absurd (let f = e in cc)
string_of (shapes.object found) s e = absurd (let f = e in cc)

pub array_of : (value : Data) (items : shapes.Items) → as_array value ≡ Some items → value ≡ shapes.array items
array_of shapes.null items e = absurd (let f = e in cc)
array_of (shapes.boolean b) items e = absurd (let f = e in cc)
array_of (shapes.number n) items e = absurd (let f = e in cc)
array_of (shapes.string t) items e = absurd (let f = e in cc)
array_of (shapes.array others) items e = let f : others ≡ items = cc in ap shapes.array f
array_of (shapes.object found) items e = absurd (let f = e in cc)

pub object_of : (value : Data) (found : shapes.Members) → as_object value ≡ Some found → value ≡ shapes.object found
object_of shapes.null found e = absurd (let f = e in cc)
object_of (shapes.boolean b) found e = absurd (let f = e in cc)
object_of (shapes.number n) found e = absurd (let f = e in cc)
object_of (shapes.string t) found e = absurd (let f = e in cc)
object_of (shapes.array items) found e = absurd (let f = e in cc)
object_of (shapes.object others) found e = let f : others ≡ found = cc in ap shapes.object f

pub mapped : {A B : Type 0} (f : A → B) (o : Option A) (y : B) → option_map f o ≡ Some y
    → (x : A) × (o ≡ Some x) × (f x ≡ y)
mapped f None y e = absurd (let g = e in cc)
mapped f (Some x) y e = (x, refl, let g : f x ≡ y = cc in g)

pub chained : {A B : Type 0} (f : A → Option B) (o : Option A) (y : B) → option_and_then f o ≡ Some y
    → (x : A) × (o ≡ Some x) × (f x ≡ Some y)
chained f None y e = absurd (let g = e in cc)
chained f (Some x) y e = (x, refl, e)

pub either : (a b : Bool) → a || b ≡ true → (a ≡ true) ⊎ (b ≡ true)
either true b h = inl refl
either false b h = inr h

pub or_left : (a b : Bool) → a ≡ true → a || b ≡ true
or_left a b h = ap (λ t. t || b) h

pub or_right : (a b : Bool) → b ≡ true → a || b ≡ true
or_right true b h = refl
or_right false b h = h

-- texts that pass a test
passed : (test : Bool) (s t : List ℕ) → cond test (Some s) None ≡ Some t → (test ≡ true) × (s ≡ t)
passed true s t e = (refl, let f : s ≡ t = cc in f)
passed false s t e = absurd (let f = e in cc)

pub passing_is : (test : List ℕ → Bool) (value : Data) (t : List ℕ) → passing test value ≡ Some t
    → (value ≡ shapes.string t) × (test t ≡ true)
passing_is test value t e =
    let c = chained (text_if test) (as_str value) t e in
    let p = passed (test c.0) c.0 t c.2 in (
      string_of value c.0 c.1 ∙ ap shapes.string p.1,
      subst (λ (s : List ℕ). test s ≡ true) p.1 p.0,
    )

pub is_passing : (test : List ℕ → Bool) (value : Data) (t : List ℕ) → value ≡ shapes.string t → test t ≡ true
    → passing test value ≡ Some t
is_passing test value t is h = ap (passing test) is ∙ ap (λ b. cond b (Some t) None) h

pub not_empty : (t : List ℕ) → nat_le 1 (length t) ≡ true → t ≢ []
not_empty [] h e = let f = h in cc
not_empty (c ∷ t) h e = let f = e in cc

pub full : (t : List ℕ) → t ≢ [] → nat_le 1 (length t) ≡ true
full [] h = absurd (h refl)
full (c ∷ t) h = at_least (length (c ∷ t)) (omega arith)
  where
    at_least : (n : ℕ) → 1 ≤ n → nat_le 1 n ≡ true
    at_least n h = grind (arith, nat_tests)

-- a thing before others
both : {A : Type 0} (r : Option A) (rs : Option (List A)) (xs : List A) → before r rs ≡ Some xs
    → (x : A) × (more : List A) × (xs ≡ x ∷ more) × (r ≡ Some x) × (rs ≡ Some more)
both (Some x) (Some more) xs e = (x, more, let f : xs ≡ x ∷ more = cc in f, refl, refl)
both (Some x) None xs e = absurd (let f = e in cc)
both None rs xs e = absurd (let f = e in cc)

-- lists
module _ {A : Type 0} (reads : Data → Option A) (Is : Data → A → Type 0) (law : IsReadAs reads Is) where
  each_of : (items : shapes.Items) (xs : List A) → all_items reads items ≡ Some xs → AreEach Is items xs
  each_of shapes.no_items [] e = tt
  each_of shapes.no_items (x ∷ xs) e = absurd (let f = e in cc)
  each_of (shapes.item value items) xs e =
      let p = both (reads value) (all_items reads items) xs e in
      subst (AreEach Is (shapes.item value items)) (sym p.2) ((law value p.0).0 p.3, each_of items p.1 p.4)

  each_to : (items : shapes.Items) (xs : List A) → AreEach Is items xs → all_items reads items ≡ Some xs
  each_to shapes.no_items [] h = refl
  each_to shapes.no_items (x ∷ xs) h = absurd h
  each_to (shapes.item value items) [] h = absurd h
  each_to (shapes.item value items) (x ∷ xs) h =
      ap (λ r. before r (all_items reads items)) ((law value x).1 h.0)
      ∙ ap (before (Some x)) (each_to items xs h.1)

  one_or_more_is : (value : Data) (xs : List A) → one_or_more reads value ≡ Some xs → IsOneOrMore Is value xs
  unfolding one_or_more
  one_or_more_is value xs e = at_items (as_array value) refl e
    where
      at_items : (items : Option shapes.Items) → as_array value ≡ items → one_or_items reads value items ≡ Some xs
          → IsOneOrMore Is value xs
      at_items None is h =
          let m = mapped (λ (x : A). x ∷ []) (reads value) xs h in inl (m.0, sym m.2, (law value m.0).0 m.1)
      at_items (Some shapes.no_items) is h = absurd (let f = h in cc)
      at_items (Some (shapes.item first more)) is h =
          inr (
            shapes.item first more,
            (first, more, refl, array_of value (shapes.item first more) is),
            each_of (shapes.item first more) xs h,
          )

  is_one_or_more : ((value : Data) (x : A) → Is value x → as_array value ≡ None) → (value : Data) (xs : List A)
      → IsOneOrMore Is value xs → one_or_more reads value ≡ Some xs
  unfolding one_or_more
  is_one_or_more no_list value xs (inl (x, is, one)) =
      ap (one_or_items reads value) (no_list value x one)
      ∙ ap (option_map (λ (y : A). y ∷ [])) ((law value x).1 one) ∙ ap Some (sym is)
  is_one_or_more no_list value xs (inr (items, (first, more, listed, is), each)) =
      ap (one_or_more reads) (is ∙ ap shapes.array listed)
      ∙ each_to (shapes.item first more) xs (subst (λ (i : shapes.Items). AreEach Is i xs) listed each)

  pub one_or_mores : ((value : Data) (x : A) → Is value x → as_array value ≡ None)
      → IsReadAs (one_or_more reads) (IsOneOrMore Is)
  one_or_mores no_list value xs = (one_or_more_is value xs, is_one_or_more no_list value xs)

-- members
module _ {A : Type 0} (reads : List ℕ → Data → Option A) (Is : List ℕ → Data → A → Type 0)
    (law : IsNamedReadAs reads Is) where
  pub members_of : (found : shapes.Members) (xs : List A) → all_members reads found ≡ Some xs → AreMembers Is found xs
  members_of shapes.no_members [] e = tt
  members_of shapes.no_members (x ∷ xs) e = absurd (let f = e in cc)
  members_of (shapes.member name value found) xs e =
      let p = both (reads name value) (all_members reads found) xs e in
      subst (AreMembers Is (shapes.member name value found)) (sym p.2)
      ((law name value p.0).0 p.3, members_of found p.1 p.4)

  pub members_to : (found : shapes.Members) (xs : List A) → AreMembers Is found xs → all_members reads found ≡ Some xs
  members_to shapes.no_members [] h = refl
  members_to shapes.no_members (x ∷ xs) h = absurd h
  members_to (shapes.member name value found) [] h = absurd h
  members_to (shapes.member name value found) (x ∷ xs) h =
      ap (λ r. before r (all_members reads found)) ((law name value x).1 h.0)
      ∙ ap (before (Some x)) (members_to found xs h.1)
