-- The items and members of what stands in a text, made values of serde_json one after the other.
use Rattle.std.proofs.Common.{◌≡◌, ℕ, ◌+◌, ◌<◌, ◌≤◌, List, [], ◌∷◌, ◌++◌, length, drop, get_or, Bor, Option, Some, None, option_map, option_and_then, refl, ap, sym, ◌∙◌, Global}
use Rattle.std.proofs.lemmas.List.{at_drop_more}
use Rattle.std.proofs.Math.ListN.{drop_of_length-le}
use Rattle.json.specs.Value.{value_view, items_view as tree_items, members_view as tree_members}
use Rattle.json.specs.declared.value.Value.{Value as Tree}
use Rattle.serde_json.specs.Data as shapes
use Rattle.serde_json.specs.Data.{put}
use Rattle.serde_json.specs.Read.{of_json, of_items, of_members}
use Rattle.serde_json.specs.View.{view, items_view}
use Rattle.serde_json.specs.declared.value.Value.{Value}

-- ---- items

-- items behind those that were made
abbrev pub behind : List Value → shapes.Items → shapes.Items
behind [] rest = rest
behind (v ∷ made) rest = shapes.item (view v) (behind made rest)

behind_none : (made : List Value) → behind made shapes.no_items ≡ items_view made
behind_none [] = refl
behind_none (v ∷ made) = ap (shapes.item (view v)) (behind_none made)

pushed : (made : List Value) (v : Value) (rest : shapes.Items)
    → behind made (shapes.item (view v) rest) ≡ behind (made ++ v ∷ []) rest
pushed [] v rest = refl
pushed (w ∷ made) v rest = ap (shapes.item (view w)) (pushed made v rest)

moved : (made : List Value) (v : Value) (rest : Option shapes.Items)
    → option_map (behind made) (option_map (shapes.item (view v)) rest) ≡ option_map (behind (made ++ v ∷ [])) rest
moved made v None = refl
moved made v (Some rest) = ap Some (pushed made v rest)

pub items_start : (made : List Value) (all : Option shapes.Items) → made ≡ [] → all ≡ option_map (behind made) all
items_start made None e = refl
items_start made (Some all) e = ap (λ vs. Some (behind vs all)) (sym e)

module _ (items : List (Tree Global)) (i : ℕ) (t : Tree Global) (h : i < length items) (at : t ≡ get_or items i t) where
  items_from : of_items (tree_items (drop i items))
      ≡ option_and_then (λ d. option_map (shapes.item d) (of_items (tree_items (drop (i + 1) items))))
      (of_json (value_view t))
  items_from =
      at_drop_more (λ (ts : List (Tree Global)). of_items (tree_items ts)) items i t h
      ∙ ap (λ (u : Tree Global). of_items (tree_items (u ∷ drop (i + 1) items))) (sym at)

  -- one more item was made
  pub items_more : (all : Option shapes.Items) (made : List Value) (v : Value) → of_json (value_view t) ≡ Some (view v)
      → all ≡ option_map (behind made) (of_items (tree_items (drop i items)))
      → all ≡ option_map (behind (made ++ v ∷ [])) (of_items (tree_items (drop (i + 1) items)))
  items_more all made v is e =
      e ∙ ap (option_map (behind made)) (items_from
      ∙ ap (option_and_then (λ d. option_map (shapes.item d) (of_items (tree_items (drop (i + 1) items))))) is)
      ∙ moved made v (of_items (tree_items (drop (i + 1) items)))

  -- an item has a number that is out of range
  pub items_bad : (all : Option shapes.Items) (made : List Value) → of_json (value_view t) ≡ None
      → all ≡ option_map (behind made) (of_items (tree_items (drop i items))) → all ≡ None
  items_bad all made is e =
      e ∙ ap (option_map (behind made)) (items_from
      ∙ ap (option_and_then (λ d. option_map (shapes.item d) (of_items (tree_items (drop (i + 1) items))))) is)

-- all items were made
pub items_all : (items : List (Tree Global)) (i : ℕ) (all : Option shapes.Items) (made : List Value) → length items ≤ i
    → all ≡ option_map (behind made) (of_items (tree_items (drop i items))) → all ≡ Some (items_view made)
items_all items i all made h e =
    e ∙ ap (λ (ts : List (Tree Global)). option_map (behind made) (of_items (tree_items ts)))
    (drop_of_length-le items h)
    ∙ ap Some (behind_none made)

-- ---- members

abbrev Member : Type 0
Member = Bor (List ℕ) × Tree Global

module _ (members : List Member) (i : ℕ) (m : Member) (h : i < length members) (at : m ≡ get_or members i m) where
  members_from : (made : shapes.Members) → of_members (tree_members (drop i members)) made
      ≡ option_and_then (λ d. of_members (tree_members (drop (i + 1) members)) (put m.0.now d made))
      (of_json (value_view m.1))
  members_from made =
      at_drop_more (λ (ms : List Member). of_members (tree_members ms) made) members i m h
      ∙ ap (λ (n : Member). of_members (tree_members (n ∷ drop (i + 1) members)) made) (sym at)

  -- one more member was made
  pub members_more : (all : Option shapes.Members) (made more : shapes.Members) (v : Value)
      → of_json (value_view m.1) ≡ Some (view v) → more ≡ put m.0.now (view v) made
      → all ≡ of_members (tree_members (drop i members)) made
      → all ≡ of_members (tree_members (drop (i + 1) members)) more
  members_more all made more v is here e =
      e ∙ members_from made
      ∙ ap (option_and_then (λ d. of_members (tree_members (drop (i + 1) members)) (put m.0.now d made))) is
      ∙ ap (of_members (tree_members (drop (i + 1) members))) (sym here)

  -- a member has a number that is out of range
  pub members_bad : (all : Option shapes.Members) (made : shapes.Members) → of_json (value_view m.1) ≡ None
      → all ≡ of_members (tree_members (drop i members)) made → all ≡ None
  members_bad all made is e =
      e ∙ members_from made
      ∙ ap (option_and_then (λ d. of_members (tree_members (drop (i + 1) members)) (put m.0.now d made))) is

-- all members were made
pub members_all : (members : List Member) (i : ℕ) (all : Option shapes.Members) (made : shapes.Members)
    → length members ≤ i → all ≡ of_members (tree_members (drop i members)) made → all ≡ Some made
members_all members i all made h e =
    e ∙ ap (λ (ms : List Member). of_members (tree_members ms) made) (drop_of_length-le members h)
