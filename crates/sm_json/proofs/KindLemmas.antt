-- What values are of each type of members.
use Rattle.std.proofs.Common.{◌≡◌, ℕ, ℤ, pos, neg_ℤ, ◌^◌, ◌&&◌, nat_lt, List, [], ◌∷◌, drop, Bool, true, false, cond, Option, Some, None, option_map, option_and_then, Result, Ok, Err, ◌⊎◌, inl, inr, Float, refl, ap, sym, subst, ◌∙◌, arith}
use Rattle.std.proofs.lemmas.Bool.Decides.{nat_tests}
use Rattle.std.specs.Result.{result_ok}
use Rattle.base64.proofs.EngineFacts.{decode_of_iff}
use Rattle.base64.specs.Engines.{standard}
use Rattle.base64.specs.GeneralPurpose.{IsStrict, decode_of, decoded_of}
use Rattle.base64.specs.declared.decode.DecodeError.{DecodeError}
use Rattle.std.specs.Float.Numeral.{Parts, scan_numeral, numeral_digits}
use Rattle.serde_json.specs.Data as shapes
use Rattle.serde_json.specs.Data.{Data}
use Rattle.serde_json.specs.Find.{as_bool, as_number, as_i64, as_str, as_array, as_object}
use Rattle.serde_json.specs.Read.{is_integer, number_from, number_of}
use Rattle.sm_json.specs.declared.fields.Mark.{Mark}
use Rattle.sm_json.specs.declared.name.MemberName.{MemberName}
use Rattle.sm_json.specs.Fields.{Flaw, may, must, left, mark_in, fault_at, first, given_at}
use Rattle.sm_json.specs.Kinds.{or_bad, text, truth, integer, binary, before, all_items, list_of, object_or_bad, items_or_bad}
use Rattle.sm_json.specs.KindLaws.{TextsAreStrings, TruthsAreTrueAndFalse, from_zero, below_zero, integer_of, IntegersAreWhole, OnlyNumbersAreIntegers, BytesAreEncoded, AreEach, IsList, ListsAre}

-- a value that is there
some_of : {A : Type 0} (o : Option A) (x : A) → or_bad o ≡ Ok x → o ≡ Some x
some_of None x e = absurd (let f = e in cc)
some_of (Some y) x e = let f : y ≡ x = cc in ap Some f

string_of : (value : Data) (s : List ℕ) → as_str value ≡ Some s → value ≡ shapes.string s
string_of shapes.null s e = absurd (let f = e in cc)
string_of (shapes.boolean b) s e = absurd (let f = e in cc)
string_of (shapes.number n) s e = absurd (let f = e in cc)
string_of (shapes.string t) s e = let f : t ≡ s = cc in ap shapes.string f
string_of (shapes.array items) s e = absurd (let f = e in cc)
string_of (shapes.object found) s e = absurd (let f = e in cc)

boolean_of : (value : Data) (b : Bool) → as_bool value ≡ Some b → value ≡ shapes.boolean b
boolean_of shapes.null b e = absurd (let f = e in cc)
boolean_of (shapes.boolean c) b e = let f : c ≡ b = cc in ap shapes.boolean f
boolean_of (shapes.number n) b e = absurd (let f = e in cc)
boolean_of (shapes.string t) b e = absurd (let f = e in cc)
boolean_of (shapes.array items) b e = absurd (let f = e in cc)
boolean_of (shapes.object found) b e = absurd (let f = e in cc)

pub array_of : (value : Data) (items : shapes.Items) → as_array value ≡ Some items → value ≡ shapes.array items
array_of shapes.null items e = absurd (let f = e in cc)
array_of (shapes.boolean b) items e = absurd (let f = e in cc)
array_of (shapes.number n) items e = absurd (let f = e in cc)
array_of (shapes.string t) items e = absurd (let f = e in cc)
array_of (shapes.array others) items e = let f : others ≡ items = cc in ap shapes.array f
array_of (shapes.object found) items e = absurd (let f = e in cc)

pub object_of : (value : Data) (found : shapes.Members) → as_object value ≡ Some found → value ≡ shapes.object found
object_of shapes.null found e = absurd (let f = e in cc)
object_of (shapes.boolean b) found e = absurd (let f = e in cc)
object_of (shapes.number n) found e = absurd (let f = e in cc)
object_of (shapes.string t) found e = absurd (let f = e in cc)
object_of (shapes.array items) found e = absurd (let f = e in cc)
object_of (shapes.object others) found e = let f : others ≡ found = cc in ap shapes.object f

number_is : (value : Data) (n : shapes.Num) → as_number value ≡ Some n → value ≡ shapes.number n
number_is shapes.null n e = absurd (let f = e in cc)
number_is (shapes.boolean b) n e = absurd (let f = e in cc)
number_is (shapes.number m) n e = let f : m ≡ n = cc in ap shapes.number f
number_is (shapes.string t) n e = absurd (let f = e in cc)
number_is (shapes.array items) n e = absurd (let f = e in cc)
number_is (shapes.object found) n e = absurd (let f = e in cc)

pub texts : TextsAreStrings
unfolding text
texts value bytes = (λ e. string_of value bytes (some_of (as_str value) bytes e), λ e. ap text e)

pub truths : TruthsAreTrueAndFalse
unfolding truth
truths value b = (λ e. boolean_of value b (some_of (as_bool value) b e), λ e. ap truth e)

-- integers
no_float : (finite : Bool) (x : Float) (num : shapes.Num) → cond finite (Some (shapes.float x)) None ≡ Some num
    → as_i64 num ≡ None
no_float true x num e = let f : shapes.float x ≡ num = cc in ap as_i64 (sym f)
no_float false x num e = absurd (let f = e in cc)

below : (whole finite : Bool) (z : ℤ) (x : Float) (num : shapes.Num)
    → cond whole (Some (shapes.negative z)) (cond finite (Some (shapes.float x)) None) ≡ Some num
    → as_i64 num ≡ cond whole (Some z) None
below true finite z x num e = let f : shapes.negative z ≡ num = cc in ap as_i64 (sym f)
below false finite z x num e = no_float finite x num e

above : (whole wide narrow finite : Bool) (n : ℕ) (x : Float) (num : shapes.Num) → nat_lt n (2 ^ 63) ≡ narrow
    → (narrow ≡ true → wide ≡ true)
    → cond (whole && wide) (Some (shapes.unsigned n)) (cond finite (Some (shapes.float x)) None) ≡ Some num
    → as_i64 num ≡ cond (whole && narrow) (Some (pos n)) None
above false wide narrow finite n x num is h e = no_float finite x num e
above true true narrow finite n x num is h e =
    let f : shapes.unsigned n ≡ num = cc in ap as_i64 (sym f) ∙ ap (λ b. cond b (Some (pos n)) None) is
above true false true finite n x num is h e = absurd (let f = h refl in cc)
above true false false finite n x num is h e = no_float finite x num e

narrow_wide : (n : ℕ) → nat_lt n (2 ^ 63) ≡ true → nat_lt n (2 ^ 64) ≡ true
narrow_wide n h = grind (arith, nat_tests)

by_sign : (negative : Bool) (p q : Parts) (num : shapes.Num)
    → cond negative (number_from true p) (number_from false q) ≡ Some num
    → as_i64 num ≡ cond negative (below_zero p) (from_zero q)
by_sign true p q num e = below _ _ (neg_ℤ (pos (numeral_digits p))) _ num e
by_sign false p q num e =
    above (is_integer q) (nat_lt (numeral_digits q) (2 ^ 64)) (nat_lt (numeral_digits q) (2 ^ 63)) _
    (numeral_digits q) _ num refl
    (narrow_wide (numeral_digits q)) e

same_integer : (digits : List ℕ) (num : shapes.Num) → number_of digits ≡ Some num → as_i64 num ≡ integer_of digits
unfolding number_of
same_integer digits num e = by_sign _ (scan_numeral (drop 1 digits)) (scan_numeral digits) num e

pub integers : IntegersAreWhole
unfolding integer
integers digits value e = at_number (number_of digits) refl e
  where
    at_number : (n : Option shapes.Num) → number_of digits ≡ n → option_map shapes.number n ≡ Some value
        → integer value ≡ or_bad (integer_of digits)
    at_number None is h = absurd (let f = h in cc)
    at_number (Some num) is h = let v : value ≡ shapes.number num = cc in ap integer v
        ∙ ap or_bad (same_integer digits num is)

pub only_numbers : OnlyNumbersAreIntegers
unfolding integer
only_numbers value z e = at_number (as_number value) refl (some_of _ z e)
  where
    at_number : (n : Option shapes.Num) → as_number value ≡ n → option_and_then as_i64 n ≡ Some z
        → (m : shapes.Num) × (value ≡ shapes.number m)
    at_number None is h = absurd (let f = h in cc)
    at_number (Some num) is h = (num, number_is value num is)

-- bytes
ok_of : (r : Result (List ℕ) DecodeError) (bytes : List ℕ) → or_bad (result_ok r) ≡ Ok bytes → r ≡ Ok bytes
ok_of (Ok x) bytes e = let f : x ≡ bytes = cc in ap Ok f
ok_of (Err x) bytes e = absurd (let f = e in cc)

strict : IsStrict standard
strict = (refl, refl)

pub encoded : BytesAreEncoded
unfolding binary decoded_of
encoded string bytes s b = (
  λ e. (decode_of_iff standard string bytes strict s b).0 (ok_of (decode_of standard string) bytes e),
  λ e. ap (λ (r : Result (List ℕ) DecodeError). or_bad (result_ok r))
      ((decode_of_iff standard string bytes strict s b).1 e),
)

-- lists
module _ {A : Type 0} (reads : Data → Result A Mark) where
  both : (r : Result A Mark) (rs : Result (List A) Mark) (xs : List A) → before r rs ≡ Ok xs
      → (x : A) × (more : List A) × (xs ≡ x ∷ more) × (r ≡ Ok x) × (rs ≡ Ok more)
  both (Ok x) (Ok more) xs e = (x, more, let f : xs ≡ x ∷ more = cc in f, refl, refl)
  both (Ok x) (Err mark) xs e = absurd (let f = e in cc)
  both (Err mark) rs xs e = absurd (let f = e in cc)

  each_of : (items : shapes.Items) (xs : List A) → all_items reads items ≡ Ok xs → AreEach reads items xs
  each_of shapes.no_items [] e = tt
  each_of shapes.no_items (x ∷ xs) e = absurd (let f = e in cc)
  each_of (shapes.item value items) xs e =
      let p = both (reads value) (all_items reads items) xs e in
      subst (AreEach reads (shapes.item value items)) (sym p.2) (p.3, each_of items p.1 p.4)

  each_to : (items : shapes.Items) (xs : List A) → AreEach reads items xs → all_items reads items ≡ Ok xs
  each_to shapes.no_items [] h = refl
  each_to shapes.no_items (x ∷ xs) h = absurd h
  each_to (shapes.item value items) [] h = absurd h
  each_to (shapes.item value items) (x ∷ xs) h =
      ap (λ r. before r (all_items reads items)) h.0 ∙ ap (before (Ok x)) (each_to items xs h.1)

  list_is : (value : Data) (xs : List A) → list_of reads value ≡ Ok xs → IsList reads value xs
  unfolding list_of
  list_is value xs e = at_items (as_array value) refl e
    where
      at_items : (items : Option shapes.Items) → as_array value ≡ items → items_or_bad reads items ≡ Ok xs
          → IsList reads value xs
      at_items None is h = absurd (let f = h in cc)
      at_items (Some items) is h = (items, array_of value items is, each_of items xs h)

  is_list : (value : Data) (xs : List A) → IsList reads value xs → list_of reads value ≡ Ok xs
  unfolding list_of
  is_list value xs (items, is, each) = ap (list_of reads) is ∙ each_to items xs each

  pub lists : ListsAre reads
  lists value xs = (list_is value xs, is_list value xs)

-- members of objects
pub neither_first : (a b : Option Flaw) → first a b ≡ None → (a ≡ None) × (b ≡ None)
neither_first None b e = (refl, e)
neither_first (Some x) b e = absurd (let f = e in cc)

pub object_is : {A : Type 0} (o : Option shapes.Members) (flaw : Option Flaw) (x y : A) → object_or_bad o flaw x ≡ Ok y
    → ((found : shapes.Members) × (o ≡ Some found)) × (flaw ≡ None) × (x ≡ y)
object_is None flaw x y e = absurd (let f = e in cc)
object_is (Some found) None x y e = ((found, refl), refl, let f : x ≡ y = cc in f)
object_is (Some found) (Some flaw) x y e = absurd (let f = e in cc)

abbrev pub flaw_of : MemberName → Mark → Flaw
flaw_of which mark = (which, mark)

module _ {A : Type 0} (reads : Data → Result A Mark) (name : MemberName) where
  read_of : (r : Result A Mark) → option_map (flaw_of name) (mark_in r) ≡ None
      → (x : A) × (r ≡ Ok x)
  read_of (Ok x) e = (x, refl)
  read_of (Err mark) e = absurd (let f = e in cc)

  pub must_is : (o : Option Data) → fault_at (must name reads) o ≡ None
      → (value : Data) × (x : A) × (o ≡ Some value) × (reads value ≡ Ok x)
  unfolding must
  must_is None e = absurd (let f = e in cc)
  must_is (Some value) e = let r = read_of (reads value) e in (value, r.0, refl, r.1)

  pub may_is : (o : Option Data) → fault_at (may name reads) o ≡ None
      → (o ≡ None) ⊎ ((value : Data) × (x : A) × (o ≡ Some value) × (reads value ≡ Ok x))
  unfolding may
  may_is None e = inl refl
  may_is (Some value) e = let r = read_of (reads value) e in inr (value, r.0, refl, r.1)

  pub must_fits : (o : Option Data) (value : Data) (x : A) → o ≡ Some value → reads value ≡ Ok x
      → fault_at (must name reads) o ≡ None
  unfolding must
  must_fits o value x is e = ap (fault_at (must name reads)) is
      ∙ ap (λ r. option_map (flaw_of name) (mark_in r)) e

  pub may_fits : (o : Option Data) (value : Data) (x : A) → o ≡ Some value → reads value ≡ Ok x
      → fault_at (may name reads) o ≡ None
  unfolding may
  may_fits o value x is e = ap (fault_at (may name reads)) is
      ∙ ap (λ r. option_map (flaw_of name) (mark_in r)) e

  pub may_be_absent : (o : Option Data) → o ≡ None → fault_at (may name reads) o ≡ None
  unfolding may
  may_be_absent o is = ap (fault_at (may name reads)) is

  pub is_given : (o : Option Data) (value : Data) (x : A) → o ≡ Some value → reads value ≡ Ok x
      → given_at reads o ≡ Some x
  is_given o value x is e = ap (given_at reads) is ∙ ap result_ok e

pub left_is : (name : MemberName) (o : Option Data) → fault_at (left name) o ≡ None → o ≡ None
unfolding left
left_is which None e = refl
left_is which (Some value) e = absurd (let f = e in cc)

pub left_fits : (name : MemberName) (o : Option Data) → o ≡ None → fault_at (left name) o ≡ None
unfolding left
left_fits name o is = ap (fault_at (left name)) is
