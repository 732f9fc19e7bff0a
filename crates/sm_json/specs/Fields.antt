-- A table of members, and the reading of an object by one: AWS JSON 1.1, and the request syntax of each operation in
-- the API Reference.
use Rattle.std.specs.Prelude.{Bool, true, false, if◌then◌else◌, List, [], ◌∷◌, Option, Some, None, option_map, option_and_then, unwrap_or, Result, Ok, Err}
use Rattle.std.specs.Result.{result_ok}
use Rattle.serde_json.specs.Data as shapes
use Rattle.serde_json.specs.Data.{Data}
use Rattle.serde_json.specs.Find.{get}
use Rattle.sm_json.specs.declared.fields.Mark.{Mark}
use Rattle.sm_json.specs.declared.fields.Mark.TheVariants.{Bad, LeftOut}
use Rattle.sm_json.specs.declared.name.MemberName.{MemberName}
use Rattle.sm_json.specs.Names.{spelled}

-- a value, unless it is null
abbrev pub unless_null : Data → Option Data
unless_null shapes.null = None
unless_null (shapes.boolean b) = Some (shapes.boolean b)
unless_null (shapes.number n) = Some (shapes.number n)
unless_null (shapes.string s) = Some (shapes.string s)
unless_null (shapes.array items) = Some (shapes.array items)
unless_null (shapes.object members) = Some (shapes.object members)

-- a member of an object; null is as good as absent
unfoldable pub member_of : MemberName → Data → Option Data
member_of name json = option_and_then unless_null (get (spelled name) json)

-- a member of a table: its name, whether it must be there, and what is wrong with a value of it
pub record Field : Type 0 where
  pub name : MemberName
  pub required : Bool
  pub marks : Data → Option Mark

-- what is wrong, where something is
abbrev pub mark_in : {A : Type 0} → Result A Mark → Option Mark
mark_in (Ok x) = None
mark_in (Err mark) = Some mark

-- a member that need not be there, and one that must be, of a type
unfoldable pub may : {A : Type 0} → MemberName → (Data → Result A Mark) → Field
may name reads = record { name = name; required = false; marks = λ value. mark_in (reads value) }

unfoldable pub must : {A : Type 0} → MemberName → (Data → Result A Mark) → Field
must name reads = record { name = name; required = true; marks = λ value. mark_in (reads value) }

-- a member that is left out by name
unfoldable pub left : MemberName → Field
left name = record { name = name; required = false; marks = λ value. Some LeftOut }

-- a member with which something is wrong
abbrev pub Flaw : Type 0
Flaw = MemberName × Mark

-- what is wrong with a member of an object
abbrev pub fault_at : Field → Option Data → Option Flaw
fault_at field None = if field.required then Some (field.name, Bad) else None
fault_at field (Some value) = option_map (λ mark. (field.name, mark)) (field.marks value)

unfoldable pub fault_of : Field → Data → Option Flaw
fault_of field json = fault_at field (member_of field.name json)

-- the first of two, where it is there
abbrev pub first : {A : Type 0} → Option A → Option A → Option A
first (Some x) other = Some x
first None other = other

-- the first member of a table with which something is wrong
abbrev pub first_fault : List Field → Data → Option Flaw
first_fault [] json = None
first_fault (field ∷ fields) json = first (fault_of field json) (first_fault fields json)

-- the value of a member, where it is there and of its type
abbrev pub given_at : {A : Type 0} → (Data → Result A Mark) → Option Data → Option A
given_at reads None = None
given_at reads (Some value) = result_ok (reads value)

unfoldable pub given : {A : Type 0} → (Data → Result A Mark) → MemberName → Data → Option A
given reads name json = given_at reads (member_of name json)

-- the value of a member that must be there
abbrev pub wanted : {A : Type 0} → (Data → Result (List A) Mark) → MemberName → Data → List A
wanted reads name json = unwrap_or (given reads name json) []
