-- What a JSON value is as a value of each type of members: AWS JSON 1.1, and the data types of the API Reference.
use Rattle.std.specs.Prelude.{ℕ, ℤ, Bool, List, [], ◌∷◌, Option, Some, None, option_and_then, unwrap_or, Result, Ok, Err}
use Rattle.base64.specs.Engines.{standard}
use Rattle.base64.specs.GeneralPurpose.{decoded_of}
use Rattle.serde_json.specs.Data as shapes
use Rattle.serde_json.specs.Data.{Data}
use Rattle.serde_json.specs.Find.{as_bool, as_number, as_i64, as_str, as_array, as_object}
use Rattle.sm_model.specs.declared.request.Filter.{Filter}
use Rattle.sm_model.specs.declared.request.Rules.{Rules}
use Rattle.sm_model.specs.declared.value.Tag.{Tag}
use Rattle.sm_json.specs.declared.fields.Mark.{Mark}
use Rattle.sm_json.specs.declared.fields.Mark.TheVariants.{Bad}
use Rattle.sm_json.specs.declared.name.MemberName.TheVariants as names
use Rattle.sm_json.specs.Fields.{Field, Flaw, may, must, left, first_fault, given, wanted}

-- a value of the type, if it is one
abbrev pub or_bad : {A : Type 0} → Option A → Result A Mark
or_bad None = Err Bad
or_bad (Some x) = Ok x

-- a text
unfoldable pub text : Data → Result (List ℕ) Mark
text value = or_bad (as_str value)

-- a truth value
unfoldable pub truth : Data → Result Bool Mark
truth value = or_bad (as_bool value)

-- an integer in the range of i64
unfoldable pub integer : Data → Result ℤ Mark
integer value = or_bad (option_and_then as_i64 (as_number value))

-- bytes as a text in base64 (RFC 4648, section 4), padded and with nothing past their end
unfoldable pub binary : Data → Result (List ℕ) Mark
binary value = or_bad (option_and_then (decoded_of standard) (as_str value))

-- an item and those behind it, or the first that is wrong
abbrev pub before : {A : Type 0} → Result A Mark → Result (List A) Mark → Result (List A) Mark
before (Ok x) (Ok xs) = Ok (x ∷ xs)
before (Ok x) (Err mark) = Err mark
before (Err mark) more = Err mark

abbrev pub all_items : {A : Type 0} → (Data → Result A Mark) → shapes.Items → Result (List A) Mark
all_items reads shapes.no_items = Ok []
all_items reads (shapes.item value items) = before (reads value) (all_items reads items)

-- a list of such values
abbrev pub items_or_bad : {A : Type 0} → (Data → Result A Mark) → Option shapes.Items → Result (List A) Mark
items_or_bad reads None = Err Bad
items_or_bad reads (Some items) = all_items reads items

unfoldable pub list_of : {A : Type 0} → (Data → Result A Mark) → Data → Result (List A) Mark
list_of reads value = items_or_bad reads (as_array value)

-- an object of such members; what is wrong with one of them is wrong with the object
abbrev pub or_flaw : {A : Type 0} → Option Flaw → A → Result A Mark
or_flaw None x = Ok x
or_flaw (Some flaw) x = Err flaw.1

abbrev pub object_or_bad : {A : Type 0} → Option shapes.Members → Option Flaw → A → Result A Mark
object_or_bad None flaw x = Err Bad
object_or_bad (Some found) flaw x = or_flaw flaw x

-- a tag; without a Value it has the empty text (API Reference, Tag)
unfoldable pub tag_members : List Field
tag_members = must names.Key text ∷ may names.Value text ∷ []

unfoldable pub tag_in : Data → Tag
tag_in json = record { key = wanted text names.Key json; value = unwrap_or (given text names.Value json) [] }

unfoldable pub tag : Data → Result Tag Mark
tag value = object_or_bad (as_object value) (first_fault tag_members value) (tag_in value)

-- a region to replicate to, by its name; whatever else is said of it is passed over (API Reference, ReplicaRegionType)
unfoldable pub region_members : List Field
region_members = must names.Region text ∷ []

unfoldable pub region : Data → Result (List ℕ) Mark
region value =
    object_or_bad (as_object value) (first_fault region_members value) (wanted text names.Region value)

-- a filter (API Reference, Filter)
unfoldable pub filter_members : List Field
filter_members = must names.Key text ∷ must names.Values (list_of text) ∷ []

unfoldable pub filter_in : Data → Filter
filter_in json = record { key = wanted text names.Key json; values = wanted (list_of text) names.Values json }

unfoldable pub filter : Data → Result Filter Mark
filter value = object_or_bad (as_object value) (first_fault filter_members value) (filter_in value)

-- rotation rules (API Reference, RotationRulesType)
unfoldable pub rules_members : List Field
rules_members =
    may names.AutomaticallyAfterDays integer ∷ left names.Duration ∷ may names.ScheduleExpression text ∷ []

unfoldable pub rules_in : Data → Rules
rules_in json = record {
  days = given integer names.AutomaticallyAfterDays json;
  schedule = given text names.ScheduleExpression json;
}

unfoldable pub rules : Data → Result Rules Mark
rules value = object_or_bad (as_object value) (first_fault rules_members value) (rules_in value)
