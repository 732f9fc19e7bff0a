-- The tokens of a reply's text, one member or item behind the other.
use Rattle.std.specs.Prelude.{ℕ, List, [], ◌∷◌, ◌++◌, Option, Some, None}
use Rattle.json.specs.Token.{Token}
use Rattle.json.specs.Tree.{json_tokens}
use Rattle.serde_json.specs.Data.{Data, Members, no_members, member}
use Rattle.serde_json.specs.Written.{outline}
use Rattle.sm_reply.specs.Members.{Given}

abbrev pub value_tokens : Data → List Token
value_tokens value = json_tokens (outline value)

-- members behind others
abbrev pub behind : Members → List Token → List Token
behind no_members tokens = tokens
behind (member name value members) tokens = behind members ((tokens ++ Token.key name ∷ []) ++ value_tokens value)

-- one member more, where it is there
abbrev pub member_behind : List ℕ → Option Data → List Token → List Token
member_behind name None tokens = tokens
member_behind name (Some value) tokens = (tokens ++ Token.key name ∷ []) ++ value_tokens value

-- the members that are there, one behind the other
abbrev pub members_behind : List Given → List Token → List Token
members_behind [] tokens = tokens
members_behind (given ∷ more) tokens = members_behind more (member_behind given.0 given.1 tokens)

-- the items of a list, one behind the other
abbrev pub items_behind : {A : Type 0} → (A → Data) → List A → List Token → List Token
items_behind shows [] tokens = tokens
items_behind shows (part ∷ parts) tokens = items_behind shows parts (tokens ++ value_tokens (shows part))
