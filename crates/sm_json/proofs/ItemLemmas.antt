-- The items of a list, read one after the other.
use Rattle.std.proofs.Common.{◌≡◌, ℕ, ◌+◌, ◌<◌, ◌≤◌, List, [], ◌∷◌, ◌++◌, length, drop, get_or, Result, Ok, Err, refl, ap, sym, ◌∙◌, append_assoc, append-nil}
use Rattle.std.proofs.lemmas.List.{at_drop_more}
use Rattle.std.proofs.Math.ListN.{drop_of_length-le}
use Rattle.serde_json.specs.Data.{Data}
use Rattle.serde_json.specs.declared.value.Value.{Value}
use Rattle.serde_json.specs.View.{view, items_view}
use Rattle.sm_json.specs.declared.fields.Mark.{Mark}
use Rattle.sm_json.specs.Kinds.{before, all_items}

-- items before those of a list, if none of that is wrong
abbrev pub with_front : {A : Type 0} → List A → Result (List A) Mark → Result (List A) Mark
with_front front (Err mark) = Err mark
with_front front (Ok items) = Ok (front ++ items)

front_moved : {A : Type 0} (front : List A) (x : A) (items : Result (List A) Mark)
    → with_front front (before (Ok x) items) ≡ with_front (front ++ x ∷ []) items
front_moved front x (Err mark) = refl
front_moved front x (Ok items) = ap Ok (sym (append_assoc front (x ∷ []) items))

module _ {A : Type 0} (reads : Data → Result A Mark) (items : List Value) (i : ℕ) (v : Value) (h : i < length items)
    (at : v ≡ get_or items i v) where
  items_from : all_items reads (items_view (drop i items)) ≡ before (reads (view v))
      (all_items reads (items_view (drop (i + 1) items)))
  items_from =
      at_drop_more (λ (vs : List Value). all_items reads (items_view vs)) items i v h
      ∙ ap (λ (w : Value). all_items reads (items_view (w ∷ drop (i + 1) items))) (sym at)

  -- one more item was read
  pub items_more : (all : Result (List A) Mark) (front : List A) (x : A) → reads (view v) ≡ Ok x
      → all ≡ with_front front (all_items reads (items_view (drop i items)))
      → all ≡ with_front (front ++ x ∷ []) (all_items reads (items_view (drop (i + 1) items)))
  items_more all front x is e =
      e ∙ ap (with_front front) (items_from
      ∙ ap (λ r. before r (all_items reads (items_view (drop (i + 1) items)))) is)
      ∙ front_moved front x (all_items reads (items_view (drop (i + 1) items)))

  -- an item is of another type
  pub items_bad : (all : Result (List A) Mark) (front : List A) (mark : Mark) → reads (view v) ≡ Err mark
      → all ≡ with_front front (all_items reads (items_view (drop i items))) → all ≡ Err mark
  items_bad all front mark is e =
      e ∙ ap (with_front front) (items_from
      ∙ ap (λ r. before r (all_items reads (items_view (drop (i + 1) items)))) is)

-- all items were read
pub items_all : {A : Type 0} (reads : Data → Result A Mark) (items : List Value) (i : ℕ) (all : Result (List A) Mark)
    (front : List A) → length items ≤ i
    → all ≡ with_front front (all_items reads (items_view (drop i items))) → all ≡ Ok front
items_all reads items i all front h e =
    e ∙ ap (λ (vs : List Value). with_front front (all_items reads (items_view vs))) (drop_of_length-le items h)
    ∙ ap Ok (append-nil front)
