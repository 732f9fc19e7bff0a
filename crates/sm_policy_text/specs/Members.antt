-- The members of an object of a policy, and which of them is the first at fault.
-- IAM User Guide: "Grammar of the IAM JSON policy language".
use Rattle.std.specs.Prelude.{Bool, true, false, if◌then◌else◌, List, [], ◌∷◌, codes, ℕ, Option, Some, None, option_and_then, is_some}
use Rattle.std.specs.List.{list_any}
use Rattle.serde_json.specs.Data as shapes
use Rattle.serde_json.specs.Data.{Data}
use Rattle.serde_json.specs.Find.{get}
use Rattle.sm_base.specs.Texts.{same_text}
use Rattle.sm_policy_text.specs.declared.member.Member.{Member}
use Rattle.sm_policy_text.specs.declared.member.Member.TheVariants.{Action, Condition, Effect, Id, Principal, Resource, Sid, Statement, Version}

-- the name of a member
abbrev pub spelled : Member → List ℕ
spelled Action = codes "Action"
spelled Condition = codes "Condition"
spelled Effect = codes "Effect"
spelled Id = codes "Id"
spelled Principal = codes "Principal"
spelled Resource = codes "Resource"
spelled Sid = codes "Sid"
spelled Statement = codes "Statement"
spelled Version = codes "Version"

-- the name is one of these members'
abbrev pub is_among : List Member → List ℕ → Bool
is_among known name = list_any (λ m. same_text (spelled m) name) known

-- the first member that is none of these; an object has its members in ascending byte order of their names
abbrev pub first_unknown : List Member → shapes.Members → Option (List ℕ)
first_unknown known shapes.no_members = None
first_unknown known (shapes.member name value rest) =
    if is_among known name then first_unknown known rest else Some name

abbrev pub unknown_of : List Member → Option shapes.Members → Option (List ℕ)
unknown_of known None = None
unknown_of known (Some found) = first_unknown known found

-- a member of an object; the last of those of one name counts, and null is a value
unfoldable pub member_of : Member → Data → Option Data
member_of name json = get (spelled name) json

-- a member of a table: its name, whether it must be there, and which values are in its form
pub record Field : Type 0 where
  pub name : Member
  pub required : Bool
  pub fits : Data → Bool

-- a member that need not be there, and one that must be, in a form
unfoldable pub may : Member → (Data → Bool) → Field
may name fits = record { name = name; required = false; fits = fits }

unfoldable pub must : Member → (Data → Bool) → Field
must name fits = record { name = name; required = true; fits = fits }

-- the value is read
abbrev pub is_read : {A : Type 0} → (Data → Option A) → Data → Bool
is_read reads value = is_some (reads value)

-- what is wrong with a member: it is missing, or not in its form
abbrev pub fault_at : Field → Option Data → Option (List ℕ)
fault_at field None = if field.required then Some (spelled field.name) else None
fault_at field (Some value) = if field.fits value then None else Some (spelled field.name)

unfoldable pub fault_of : Field → Data → Option (List ℕ)
fault_of field json = fault_at field (member_of field.name json)

-- the first of two, where it is there
abbrev pub first : {A : Type 0} → Option A → Option A → Option A
first (Some x) other = Some x
first None other = other

-- the first member of a table with which something is wrong
abbrev pub first_fault : List Field → Data → Option (List ℕ)
first_fault [] json = None
first_fault (field ∷ fields) json = first (fault_of field json) (first_fault fields json)

-- the value of a member, where it is there and in its form
unfoldable pub given : {A : Type 0} → (Data → Option A) → Member → Data → Option A
given reads name json = option_and_then reads (member_of name json)
