-- What follows from the tables, in words that don't speak of them one after the other: which member is refused, when
-- none is, what of a body counts, and what the text of a body has to do with it (RFC 8259, section 4: members may be
-- repeated, and their order says nothing).
use Rattle.std.specs.Prelude.{◌≡◌, ℕ, ◌<◌, ◌↔◌, ◌⊎◌, List, [], ◌∷◌, length, Option, Some, None, option_and_then, if◌then◌else◌, ⊤}
use Rattle.std.specs.Cmp.Lexicographic.{slice_cmp}
use Rattle.std.specs.Ordering.{nat_cmp}
use Rattle.std.specs.declared.cmp.Ordering.TheVariants.{Less}
use Rattle.std.specs.Str.{bytes_eq}
use Rattle.json.specs.Json as grammar
use Rattle.json.specs.Lex.{tokens}
use Rattle.serde_json.specs.Data.{Data}
use Rattle.serde_json.specs.Read.{max_depth, of_json}
use Rattle.sm_json.specs.declared.name.MemberName.{MemberName}
use Rattle.sm_json.specs.declared.operation.Operation.{Operation}
use Rattle.sm_json.specs.declared.requests.ReadRequest.TheVariants as answers
use Rattle.sm_model.specs.declared.request.Request.{Request}
use Rattle.sm_json.specs.Asks.{members_of, asked, asks_of, object_of}
use Rattle.sm_json.specs.Fields.{Field, Flaw, member_of, unless_null, fault_of, first, first_fault}
use Rattle.sm_json.specs.Names.{spelled}

-- a table has the member
abbrev pub Has : List Field → Field → Type 0
Has [] field = ⊥
Has (one ∷ fields) field = (one ≡ field) ⊎ Has fields field

-- a name stands before another in byte order
abbrev pub Before : MemberName → MemberName → Type 0
Before a b = slice_cmp nat_cmp (spelled a) (spelled b) ≡ Less

-- each member stands before all behind it, so each is there once
abbrev pub Ascends : List Field → Type 0
Ascends [] = ⊤
Ascends (field ∷ fields) = ((other : Field) → Has fields other → Before field.name other.name) × Ascends fields

abbrev pub TablesAscend : Type 0
TablesAscend = (operation : Operation) → Ascends (members_of operation)

-- a member of a table is at fault so, and none with a smaller name is
pub record IsLeast (fields : List Field) (json : Data) (flaw : Flaw) : Type 0 where
  pub field : Field
  pub there : Has fields field
  pub wrong : fault_of field json ≡ Some flaw
  pub least : (other : Field) → Has fields other → Before other.name field.name → fault_of other json ≡ None

-- the fault is that of the least faulty name
abbrev pub LeastIsRefused : Type 0
LeastIsRefused = (operation : Operation) (json : Data) (flaw : Flaw)
    → (first_fault (members_of operation) json ≡ Some flaw) ↔ IsLeast (members_of operation) json flaw

-- each member of a table fits
abbrev pub Fit : List Field → Data → Type 0
Fit fields json = (field : Field) → Has fields field → fault_of field json ≡ None

-- the answer is a request exactly where each member fits
abbrev pub FitIsAnswered : Type 0
FitIsAnswered = (operation : Operation) (json : Data)
    → ((request : Request) × (asked operation json ≡ answers.Ok request)) ↔ Fit (members_of operation) json

-- two objects have the members of a table alike
abbrev pub Alike : List Field → Data → Data → Type 0
Alike fields a b = (field : Field) → Has fields field → member_of field.name a ≡ member_of field.name b

-- nothing but the members of its table counts for an operation
abbrev pub OnlyMembersCount : Type 0
OnlyMembersCount = (operation : Operation) (a b : Data) → Alike (members_of operation) a b
    → asked operation a ≡ asked operation b

-- what a text is by the grammar of JSON alone, with all members as they stand
abbrev pub tree_of : List ℕ → Option grammar.Json
tree_of text = option_and_then (λ p. grammar.if_last p.0 p.1) (grammar.value max_depth (tokens text))

-- the last member of a name
abbrev pub last_named : List ℕ → grammar.Members → Option grammar.Json
last_named name grammar.no_members = None
last_named name (grammar.member key value members) =
    first (last_named name members) (if bytes_eq name key then Some value else None)

-- a text that isn't empty has these members by the grammar, and is read as this object
pub record Spells (text : List ℕ) (members : grammar.Members) (json : Data) : Type 0 where
  pub there : 0 < length text
  pub tree : tree_of text ≡ Some (grammar.object members)
  pub reads : object_of text ≡ Some json

-- a member is the last of its name in the text; then null is as good as absent
abbrev pub LastCounts : Type 0
LastCounts = (text : List ℕ) (members : grammar.Members) (json : Data) → Spells text members json
    → (name : MemberName) → member_of name json
    ≡ option_and_then unless_null (option_and_then of_json (last_named (spelled name) members))

-- bodies that have the same last members of a table ask for the same, in whatever order, beside whatever else, and
-- behind whatever members of the same names
abbrev pub OrderIsNothing : Type 0
OrderIsNothing = (operation : Operation) (text other : List ℕ) (members others : grammar.Members) (json apart : Data)
    → Spells text members json → Spells other others apart
    → ((field : Field) → Has (members_of operation) field
    → last_named (spelled field.name) members ≡ last_named (spelled field.name) others)
    → asks_of operation text ≡ asks_of operation other
