-- The last member of each name in a body's text is what counts.
use Rattle.std.proofs.Common.{◌≡◌, ◌==◌, ℕ, ◌<◌, List, length, Bool, true, false, cond, Option, Some, None, option_map, option_and_then, refl, ap, sym, ◌∙◌, arith, true≢false}
use Rattle.std.proofs.lemmas.Bool.Decides.{nat_tests}
use Rattle.std.proofs.lemmas.Slice.Eq.{bytes_eq-Decides}
use Rattle.std.specs.Str.{is_utf8, bytes_eq}
use Rattle.json.specs.Json as grammar
use Rattle.serde_json.specs.Data as shapes
use Rattle.serde_json.specs.Data.{Data, put}
use Rattle.serde_json.specs.Find.{get_member}
use Rattle.serde_json.specs.Read.{of_json, of_members}
use Rattle.serde_json.proofs.Views.{get_member-put, get_member-put_other}
use Rattle.sm_json.specs.declared.name.MemberName.{MemberName}
use Rattle.sm_json.specs.Asks.{object_only, asked_if}
use Rattle.sm_json.specs.Fields.{unless_null, member_of, first}
use Rattle.sm_json.specs.Names.{spelled}
use Rattle.sm_json.specs.Laws.{tree_of, last_named, Spells, LastCounts, OrderIsNothing}
use Rattle.sm_json.proofs.AlikeLaws.{only_members}

-- what a member is, where it is in the text, and else what it was
abbrev or_old : Option grammar.Json → Option Data → Option Data
or_old None old = old
or_old (Some value) old = of_json value

module _ (name : List ℕ) where
  -- one member more
  here : (same : Bool) (key : List ℕ) (value : grammar.Json) (d : Data) (found : shapes.Members)
      → bytes_eq name key ≡ same → of_json value ≡ Some d
      → get_member name (put key d found) ≡ or_old (cond same (Some value) None) (get_member name found)
  here true key value d found is e =
      ap (λ k. get_member k (put key d found)) ((bytes_eq-Decides name key).0 is) ∙ get_member-put key d found ∙ sym e
  here false key value d found is _ = get_member-put_other name key d found
      (λ (e : name ≡ key). true≢false (sym ((bytes_eq-Decides name key).1 e) ∙ is))

  behind : (last : Option grammar.Json) (here : Option grammar.Json) (old later : Option Data)
      → later ≡ or_old here old → or_old last later ≡ or_old (first last here) old
  behind (Some value) here old later e = refl
  behind None here old later e = e

  last_of : (members : grammar.Members) (old found : shapes.Members) → of_members members old ≡ Some found
      → get_member name found ≡ or_old (last_named name members) (get_member name old)
  last_of grammar.no_members old found h = let e : old ≡ found = cc in ap (get_member name) (sym e)
  last_of (grammar.member key value members) old found h =
      at_value (λ d e. last_of members (put key d old) found e) (of_json value) refl h
    where
      at_value : ((d : Data) → of_members members (put key d old) ≡ Some found
          → get_member name found ≡ or_old (last_named name members) (get_member name (put key d old)))
          → (d : Option Data) → of_json value ≡ d
          → option_and_then (λ x. of_members members (put key x old)) d ≡ Some found
          → get_member name found
          ≡ or_old (first (last_named name members) (cond (bytes_eq name key) (Some value) None)) (get_member name old)
      at_value more None is e = absurd (let f = e in cc)
      at_value more (Some d) is e =
          more d e
          ∙ behind (last_named name members) (cond (bytes_eq name key) (Some value) None) (get_member name old)
          (get_member name (put key d old)) (here (bytes_eq name key) key value d old refl is)

-- what was read of a body that isn't empty
from_read : (empty utf8 : Bool) (read : Option Data) (json : Data) → empty ≡ false
    → cond empty (Some (shapes.object shapes.no_members)) (option_and_then object_only (cond utf8 read None))
    ≡ Some json
    → option_and_then object_only read ≡ Some json
from_read true utf8 read json e h = absurd (let f = e in cc)
from_read false true read json e h = h
from_read false false read json e h = absurd (let f = h in cc)

from_object : (made : Option shapes.Members) (json : Data)
    → option_and_then object_only (option_map shapes.object made) ≡ Some json
    → (found : shapes.Members) × (made ≡ Some found) × (json ≡ shapes.object found)
from_object None json h = absurd (let f = h in cc)
from_object (Some found) json h = (found, refl, let f : json ≡ shapes.object found = cc in f)

not_empty : (n : ℕ) → 0 < n → n == 0 ≡ false
not_empty n h = grind (arith, nat_tests)

module _ (text : List ℕ) (members : grammar.Members) (json : Data) (s : Spells text members json) where
  object_read : (found : shapes.Members) × (of_members members shapes.no_members ≡ Some found)
      × (json ≡ shapes.object found)
  object_read =
      from_object (of_members members shapes.no_members) json
      (ap (λ t. option_and_then object_only (option_and_then of_json t)) (sym s.tree)
      ∙ from_read (length text == 0) (is_utf8 text) (option_and_then of_json (tree_of text)) json
      (not_empty (length text) s.there) s.reads)

  unabsent : (last : Option grammar.Json) → or_old last None ≡ option_and_then of_json last
  unabsent None = refl
  unabsent (Some value) = refl

  last_read : (name : MemberName) → member_of name json
      ≡ option_and_then unless_null (option_and_then of_json (last_named (spelled name) members))
  unfolding member_of
  last_read name =
      let o = object_read in
      ap (λ j. member_of name j) o.2
      ∙ ap (option_and_then unless_null) (last_of (spelled name) members shapes.no_members o.0 o.1
      ∙ unabsent (last_named (spelled name) members))

pub last : LastCounts
last text members json s name = last_read text members json s name

pub order : OrderIsNothing
order operation text other members others json apart s t same =
    ap (asked_if operation) s.reads
    ∙ only_members operation json apart (λ field in_it.
    last_read text members json s field.name
    ∙ ap (λ l. option_and_then unless_null (option_and_then of_json l)) (same field in_it)
    ∙ sym (last_read other others apart t field.name))
    ∙ sym (ap (asked_if operation) t.reads)
