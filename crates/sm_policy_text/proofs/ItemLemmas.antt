-- The items of a list, read one after the other.
use Rattle.std.proofs.Common.{◌≡◌, ℕ, ◌+◌, ◌<◌, ◌≤◌, List, [], ◌∷◌, ◌++◌, length, drop, get_or, Option, Some, None, refl, ap, sym, ◌∙◌, append_assoc, append-nil, arith}
use Rattle.std.proofs.lemmas.List.{at_drop_more}
use Rattle.std.proofs.Math.ListN.{drop_of_length-le}
use Rattle.serde_json.specs.Data.{Data}
use Rattle.serde_json.specs.declared.value.Value.{Value}
use Rattle.serde_json.specs.View.{view, items_view}
use Rattle.sm_policy_text.specs.Kinds.{before, all_items, some_items}

-- items before those of a list, if all of these are there
abbrev pub with_front : {A : Type 0} → List A → Option (List A) → Option (List A)
with_front front None = None
with_front front (Some items) = Some (front ++ items)

pub front_moved : {A : Type 0} (front : List A) (x : A) (items : Option (List A))
    → with_front front (before (Some x) items) ≡ with_front (front ++ x ∷ []) items
front_moved front x None = refl
front_moved front x (Some items) = ap Some (sym (append_assoc front (x ∷ []) items))

module _ {A : Type 0} (reads : Data → Option A) (items : List Value) (i : ℕ) (v : Value) (h : i < length items)
    (at : v ≡ get_or items i v) where
  items_from : all_items reads (items_view (drop i items)) ≡ before (reads (view v))
      (all_items reads (items_view (drop (i + 1) items)))
  items_from =
      at_drop_more (λ (vs : List Value). all_items reads (items_view vs)) items i v h
      ∙ ap (λ (w : Value). all_items reads (items_view (w ∷ drop (i + 1) items))) (sym at)

  -- one more item was read
  pub items_more : (all : Option (List A)) (front : List A) (x : A) → reads (view v) ≡ Some x
      → all ≡ with_front front (all_items reads (items_view (drop i items)))
      → all ≡ with_front (front ++ x ∷ []) (all_items reads (items_view (drop (i + 1) items)))
  items_more all front x is e =
      e ∙ ap (with_front front) (items_from
      ∙ ap (λ r. before r (all_items reads (items_view (drop (i + 1) items)))) is)
      ∙ front_moved front x (all_items reads (items_view (drop (i + 1) items)))

  -- an item is no such part
  pub items_bad : (all : Option (List A)) (front : List A) → reads (view v) ≡ None
      → all ≡ with_front front (all_items reads (items_view (drop i items))) → all ≡ None
  items_bad all front is e =
      e ∙ ap (with_front front) (items_from
      ∙ ap (λ r. before r (all_items reads (items_view (drop (i + 1) items)))) is)

-- all items were read
pub items_all : {A : Type 0} (reads : Data → Option A) (items : List Value) (i : ℕ) (all : Option (List A))
    (front : List A) → length items ≤ i
    → all ≡ with_front front (all_items reads (items_view (drop i items))) → all ≡ Some front
items_all reads items i all front h e =
    e ∙ ap (λ (vs : List Value). with_front front (all_items reads (items_view vs))) (drop_of_length-le items h)
    ∙ ap Some (append-nil front)

pub no_item : {A : Type 0} (reads : Data → Option A) (items : List Value) → length items ≡ 0
    → some_items reads (items_view items) ≡ None
no_item reads [] h = refl
no_item reads (v ∷ items) h = absurd (omega arith)

pub item_there : {A : Type 0} (reads : Data → Option A) (items : List Value) → 0 < length items
    → some_items reads (items_view items) ≡ all_items reads (items_view items)
item_there reads [] h = absurd (omega arith)
item_there reads (v ∷ items) h = refl
