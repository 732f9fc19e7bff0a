-- What a JSON value has to be for a value of each type of members, in JSON's own words (RFC 8259), and in those of
-- base64 (RFC 4648, section 4).
use Rattle.std.specs.Prelude.{◌≡◌, ℕ, ℤ, pos, neg_ℤ, ◌^◌, ◌==◌, ◌&&◌, nat_lt, nat_le, Bool, ◌↔◌, ◌⊎◌, List, [], ◌∷◌, drop, slice_index, Option, Some, None, Result, Ok, Err, if◌then◌else◌, ⊤}
use Rattle.base64.specs.Engines.{standard}
use Rattle.base64.specs.GeneralPurpose.{IsBytes, encode_of}
use Rattle.std.specs.Float.Numeral.{minus, Parts, scan_numeral, numeral_digits}
use Rattle.json.specs.Json as grammar
use Rattle.serde_json.specs.Data as shapes
use Rattle.serde_json.specs.Data.{Data}
use Rattle.serde_json.specs.Read.{is_integer, of_json}
use Rattle.sm_model.specs.declared.request.Filter.{Filter}
use Rattle.sm_model.specs.declared.request.Rules.{Rules}
use Rattle.sm_model.specs.declared.value.Tag.{Tag}
use Rattle.sm_json.specs.declared.fields.Mark.{Mark}
use Rattle.sm_json.specs.declared.fields.Mark.TheVariants.{LeftOut}
use Rattle.sm_json.specs.declared.name.MemberName.TheVariants as names
use Rattle.sm_json.specs.Fields.{member_of}
use Rattle.sm_json.specs.Kinds.{or_bad, text, truth, integer, binary, list_of, region, tag, filter, rules}

abbrev pub TextsAreStrings : Type 0
TextsAreStrings = (value : Data) (bytes : List ℕ) → (text value ≡ Ok bytes) ↔ (value ≡ shapes.string bytes)

abbrev pub TruthsAreTrueAndFalse : Type 0
TruthsAreTrueAndFalse = (value : Data) (b : Bool) → (truth value ≡ Ok b) ↔ (value ≡ shapes.boolean b)

-- the integer of a number's text: whole digits without a point and an exponent, in the range of i64, and no negative
-- zero
abbrev pub from_zero : Parts → Option ℤ
from_zero parts = if is_integer parts && nat_lt (numeral_digits parts) (2 ^ 63)
    then Some (pos (numeral_digits parts)) else None

abbrev pub below_zero : Parts → Option ℤ
below_zero parts =
    if is_integer parts && nat_lt 0 (numeral_digits parts) && nat_le (numeral_digits parts) (2 ^ 63)
    then Some (neg_ℤ (pos (numeral_digits parts))) else None

abbrev pub integer_of : List ℕ → Option ℤ
integer_of digits = if slice_index digits 0 == minus then below_zero (scan_numeral (drop 1 digits))
    else from_zero (scan_numeral digits)

abbrev pub IntegersAreWhole : Type 0
IntegersAreWhole = (digits : List ℕ) (value : Data) → of_json (grammar.number digits) ≡ Some value
    → integer value ≡ or_bad (integer_of digits)

-- no other value is an integer
abbrev pub IsNumber : Data → Type 0
IsNumber value = (n : shapes.Num) × (value ≡ shapes.number n)

abbrev pub OnlyNumbersAreIntegers : Type 0
OnlyNumbersAreIntegers = (value : Data) (z : ℤ) → integer value ≡ Ok z → IsNumber value

-- bytes are the texts that encode them, and no others
abbrev pub BytesAreEncoded : Type 0
BytesAreEncoded = (string bytes : List ℕ) → IsBytes string → IsBytes bytes
    → (binary (shapes.string string) ≡ Ok bytes) ↔ (string ≡ encode_of standard bytes)

-- each item is of the type, in order
abbrev pub AreEach : {A : Type 0} → (Data → Result A Mark) → shapes.Items → List A → Type 0
AreEach reads shapes.no_items [] = ⊤
AreEach reads shapes.no_items (x ∷ xs) = ⊥
AreEach reads (shapes.item value items) [] = ⊥
AreEach reads (shapes.item value items) (x ∷ xs) = (reads value ≡ Ok x) × AreEach reads items xs

abbrev pub IsList : {A : Type 0} → (Data → Result A Mark) → Data → List A → Type 0
IsList reads value xs = (items : shapes.Items) × (value ≡ shapes.array items) × AreEach reads items xs

abbrev pub ListsAre : {A : Type 0} → (Data → Result A Mark) → Type 0
ListsAre {A} reads = (value : Data) (xs : List A) → (list_of reads value ≡ Ok xs) ↔ IsList reads value xs

abbrev pub IsObject : Data → Type 0
IsObject value = (members : shapes.Members) × (value ≡ shapes.object members)

-- a tag has a Key, and a Value or the empty text
abbrev pub IsTag : Data → Tag → Type 0
IsTag value t = IsObject value × (member_of names.Key value ≡ Some (shapes.string t.key))
    × (((member_of names.Value value ≡ None) × (t.value ≡ []))
    ⊎ (member_of names.Value value ≡ Some (shapes.string t.value)))

abbrev pub TagsAre : Type 0
TagsAre = (value : Data) (t : Tag) → (tag value ≡ Ok t) ↔ IsTag value t

-- a region to replicate to has a Region
abbrev pub IsRegion : Data → List ℕ → Type 0
IsRegion value name = IsObject value × (member_of names.Region value ≡ Some (shapes.string name))

abbrev pub RegionsAre : Type 0
RegionsAre = (value : Data) (name : List ℕ) → (region value ≡ Ok name) ↔ IsRegion value name

-- a filter has a Key and Values
abbrev pub IsFilter : Data → Filter → Type 0
IsFilter value f = IsObject value × (member_of names.Key value ≡ Some (shapes.string f.key))
    × ((values : Data) × (member_of names.Values value ≡ Some values) × IsList text values f.values)

abbrev pub FiltersAre : Type 0
FiltersAre = (value : Data) (f : Filter) → (filter value ≡ Ok f) ↔ IsFilter value f

-- the days of rotation rules, where they are there
abbrev pub HasDays : Data → Option ℤ → Type 0
HasDays value None = member_of names.AutomaticallyAfterDays value ≡ None
HasDays value (Some days) = (given : Data) × (member_of names.AutomaticallyAfterDays value ≡ Some given)
    × (integer given ≡ Ok days)

-- the schedule of rotation rules, where it is there
abbrev pub HasSchedule : Data → Option (List ℕ) → Type 0
HasSchedule value None = member_of names.ScheduleExpression value ≡ None
HasSchedule value (Some schedule) = member_of names.ScheduleExpression value ≡ Some (shapes.string schedule)

-- rotation rules have no Duration
abbrev pub IsRules : Data → Rules → Type 0
IsRules value r = IsObject value × HasDays value r.days × (member_of names.Duration value ≡ None)
    × HasSchedule value r.schedule

abbrev pub RulesAre : Type 0
RulesAre = (value : Data) (r : Rules) → (rules value ≡ Ok r) ↔ IsRules value r

-- rules are left out by name where their days fit and a Duration is there
abbrev pub IsLeftRules : Data → Type 0
IsLeftRules value = IsObject value × ((days : Option ℤ) × HasDays value days)
    × (member_of names.Duration value ≡ None → ⊥)

abbrev pub RulesAreLeft : Type 0
RulesAreLeft = (value : Data) → (rules value ≡ Err LeftOut) ↔ IsLeftRules value
