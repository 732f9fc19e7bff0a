-- What the objects of replies are, in words that don't go through their members one after the other.
use Rattle.std.specs.Prelude.{◌≡◌, ℕ, List, [], ◌∷◌, Some, None, ◌⊎◌, ⊤}
use Rattle.std.specs.Cmp.Lexicographic.{slice_cmp}
use Rattle.std.specs.Ordering.{nat_cmp}
use Rattle.std.specs.declared.cmp.Ordering.TheVariants.{Less}
use Rattle.serde_json.specs.Data.{Data, null, boolean, number, string, array, object, Items, no_items, item, Members, no_members, member}
use Rattle.serde_json.specs.Find.{get_member}
use Rattle.sm_model.specs.declared.reply.Reply.{Reply}
use Rattle.sm_model.specs.declared.why.Why.{Why}
use Rattle.sm_model.specs.Causes.{error_of, message_of}
use Rattle.sm_reply.specs.Members.{Given, members_of}
use Rattle.sm_reply.specs.Shown.{reply_members, refusal_members}

-- a name stands before the names of all members, in byte order
abbrev pub Precedes : List ℕ → Members → Type 0
Precedes name no_members = ⊤
Precedes name (member other value members) = (slice_cmp nat_cmp name other ≡ Less) × Precedes name members

-- each object, at every depth, has its members in ascending byte order, and so each of them once
abbrev mutual
  pub Ascends : Data → Type 0
  Ascends null = ⊤
  Ascends (boolean b) = ⊤
  Ascends (number n) = ⊤
  Ascends (string s) = ⊤
  Ascends (array items) = EachAscends items
  Ascends (object members) = MembersAscend members

  pub EachAscends : Items → Type 0
  EachAscends no_items = ⊤
  EachAscends (item value items) = Ascends value × EachAscends items

  pub MembersAscend : Members → Type 0
  MembersAscend no_members = ⊤
  MembersAscend (member name value members) = Ascends value × Precedes name members × MembersAscend members

-- a list has a member
abbrev pub Has : List Given → Given → Type 0
Has [] given = ⊥
Has (one ∷ list) given = (one ≡ given) ⊎ Has list given

-- an object has each member of a list exactly where its value is there, and nothing else
pub record ShowsExactly (list : List Given) : Type 0 where
  pub given : (one : Given) → Has list one → get_member one.0 (members_of list) ≡ one.1
  pub nothing_else : (name : List ℕ) → ((one : Given) → Has list one → one.0 ≡ name → ⊥)
      → get_member name (members_of list) ≡ None

abbrev pub RepliesAscend : Type 0
RepliesAscend = (reply : Reply) (list : List Given) → reply_members reply ≡ Some list
    → Ascends (object (members_of list))

abbrev pub RepliesShowExactly : Type 0
RepliesShowExactly = (reply : Reply) (list : List Given) → reply_members reply ≡ Some list → ShowsExactly list

-- the members of the refusal with a cause
abbrev pub members_of_refusal : Why → List Given
members_of_refusal why = refusal_members (message_of why) (error_of why)

abbrev pub RefusalsAscend : Type 0
RefusalsAscend = (why : Why) → Ascends (object (members_of (members_of_refusal why)))

abbrev pub RefusalsShowExactly : Type 0
RefusalsShowExactly = (why : Why) → ShowsExactly (members_of_refusal why)
