-- What was written of an object or a list, a token behind the other, is what its value has.
use Rattle.std.proofs.Common.{◌≡◌, ℕ, ◌+◌, ◌<◌, ◌≤◌, List, [], ◌∷◌, ◌++◌, length, drop, get_or, Some, None, refl, ap, sym, ◌∙◌, append_assoc}
use Rattle.std.proofs.lemmas.List.{at_drop_more}
use Rattle.std.proofs.Math.ListN.{drop_of_length-le}
use Rattle.json.specs.Print.{print}
use Rattle.json.specs.Token.{Token}
use Rattle.json.specs.Tree.{items_tokens, members_tokens}
use Rattle.serde_json.specs.Data.{Data, array, object, Members, no_members, member}
use Rattle.serde_json.specs.Written.{items_outline, members_outline}
use Rattle.serde_json.proofs.Texts.{print-outline}
use Rattle.sm_reply.specs.Members.{Given, items_of, members_of}
use Rattle.sm_reply.specs.Shown.{text_of}
use Rattle.sm_reply.specs.Tokens.{value_tokens, behind, member_behind, members_behind, items_behind}

-- ---- objects

-- one member more, and the others behind it
pub behind_more : (given : Given) (more : List Given) (old middle new : List Token)
    → middle ≡ member_behind given.0 given.1 old → new ≡ members_behind more middle
    → new ≡ members_behind (given ∷ more) old
behind_more given more old middle new goes others = others ∙ ap (members_behind more) goes

-- members behind others, with the bracket that ends them
closed : (members : Members) (tokens : List Token)
    → behind members tokens ++ Token.end_object ∷ [] ≡ tokens ++ members_tokens (members_outline members)
closed no_members tokens = refl
closed (member name value members) tokens =
    closed members ((tokens ++ Token.key name ∷ []) ++ value_tokens value)
    ∙ append_assoc (tokens ++ Token.key name ∷ []) (value_tokens value) (members_tokens (members_outline members))
    ∙ append_assoc tokens (Token.key name ∷ []) (value_tokens value ++ members_tokens (members_outline members))

-- those that are there
given_behind : (given : List Given) (tokens : List Token)
    → members_behind given tokens ≡ behind (members_of given) tokens
given_behind [] tokens = refl
given_behind ((name, None) ∷ more) tokens = given_behind more tokens
given_behind ((name, Some value) ∷ more) tokens =
    given_behind more ((tokens ++ Token.key name ∷ []) ++ value_tokens value)

-- an object, by its members
pub members_written : (members : Members) (old begun middle new : List Token) → begun ≡ old ++ Token.begin_object ∷ []
    → middle ≡ behind members begun → new ≡ middle ++ Token.end_object ∷ []
    → new ≡ old ++ value_tokens (object members)
members_written members old begun middle new begins goes ends =
    ends
    ∙ ap (λ tokens. tokens ++ Token.end_object ∷ []) goes
    ∙ closed members begun
    ∙ ap (λ tokens. tokens ++ members_tokens (members_outline members)) begins
    ∙ append_assoc old (Token.begin_object ∷ []) (members_tokens (members_outline members))

-- an object, by its members where they are there
pub object_written : (given : List Given) (old begun middle new : List Token) → begun ≡ old ++ Token.begin_object ∷ []
    → middle ≡ members_behind given begun → new ≡ middle ++ Token.end_object ∷ []
    → new ≡ old ++ value_tokens (object (members_of given))
object_written given old begun middle new begins goes ends =
    members_written (members_of given) old begun middle new begins (goes ∙ given_behind given begun) ends

-- a text with nothing before
pub text_written : (given : List Given) (old begun middle new : List Token) (text : List ℕ) → old ≡ []
    → begun ≡ old ++ Token.begin_object ∷ [] → middle ≡ members_behind given begun
    → new ≡ middle ++ Token.end_object ∷ [] → text ≡ print new → text ≡ text_of (Some given)
text_written given old begun middle new text none begins goes ends is =
    is
    ∙ ap print (object_written given old begun middle new begins goes ends
    ∙ ap (λ tokens. tokens ++ value_tokens (object (members_of given))) none)
    ∙ print-outline (object (members_of given))

-- ---- lists

module _ {A : Type 0} (shows : A → Data) where
  -- items behind others, with the bracket that ends them
  items_closed : (parts : List A) (tokens : List Token) → items_behind shows parts tokens ++ Token.end_array ∷ []
      ≡ tokens ++ items_tokens (items_outline (items_of shows parts))
  items_closed [] tokens = refl
  items_closed (part ∷ parts) tokens =
      items_closed parts (tokens ++ value_tokens (shows part))
      ∙ append_assoc tokens (value_tokens (shows part)) (items_tokens (items_outline (items_of shows parts)))

  -- a list, by its items
  pub array_written : (parts : List A) (old begun middle new : List Token) → begun ≡ old ++ Token.begin_array ∷ []
      → middle ≡ items_behind shows parts begun → new ≡ middle ++ Token.end_array ∷ []
      → new ≡ old ++ value_tokens (array (items_of shows parts))
  array_written parts old begun middle new begins goes ends =
      ends
      ∙ ap (λ tokens. tokens ++ Token.end_array ∷ []) goes
      ∙ items_closed parts begun
      ∙ ap (λ tokens. tokens ++ items_tokens (items_outline (items_of shows parts))) begins
      ∙ append_assoc old (Token.begin_array ∷ []) (items_tokens (items_outline (items_of shows parts)))

  -- one item more
  pub items_more : (parts : List A) (i : ℕ) (x : A) (old new all : List Token) → i < length parts
      → x ≡ get_or parts i x → new ≡ old ++ value_tokens (shows x) → items_behind shows (drop i parts) old ≡ all
      → items_behind shows (drop (i + 1) parts) new ≡ all
  items_more parts i x old new all h at is e =
      ap (items_behind shows (drop (i + 1) parts)) is
      ∙ ap (λ (y : A). items_behind shows (y ∷ drop (i + 1) parts) old) at
      ∙ sym (at_drop_more (λ (xs : List A). items_behind shows xs old) parts i x h)
      ∙ e

  -- all items
  pub items_all : (parts : List A) (i : ℕ) (new all : List Token) → length parts ≤ i
      → items_behind shows (drop i parts) new ≡ all → new ≡ all
  items_all parts i new all h e =
      sym (ap (λ (xs : List A). items_behind shows xs new) (drop_of_length-le parts h)) ∙ e
