-- Lists and objects of a reply: a member that is not there is left out.
use Rattle.std.specs.Prelude.{ℕ, List, [], ◌∷◌, Option, Some, None}
use Rattle.serde_json.specs.Data.{Data, Items, no_items, item, Members, no_members, member}

-- parts as the items of a list
abbrev pub items_of : {A : Type 0} → (A → Data) → List A → Items
items_of shows [] = no_items
items_of shows (part ∷ parts) = item (shows part) (items_of shows parts)

-- a member's name, and its value where the member is there
abbrev pub Given : Type 0
Given = List ℕ × Option Data

-- a member before others, where it is there
abbrev pub member_if : List ℕ → Option Data → Members → Members
member_if name None members = members
member_if name (Some value) members = member name value members

-- the members that are there, in the order in which they stand
abbrev pub members_of : List Given → Members
members_of [] = no_members
members_of (given ∷ more) = member_if given.0 given.1 (members_of more)
