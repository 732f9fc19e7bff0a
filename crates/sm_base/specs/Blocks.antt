-- The items that lists share in blocks, and which of them a list has.
use Rattle.std.specs.Prelude.{◌≡◌, ℕ, suc, ◌<◌, ◌≤◌, ◌^◌, Bool, false, ⊤, List, [], ◌∷◌, ◌++◌, Option, None, Some, length, map, slice_get}
use Rattle.std.specs.List.{cons_option}

-- the items of blocks that are there, and none of such that are not
abbrev pub items_of : {A X : Type 0} → Option A → (A → List X) → List X
items_of None items = []
items_of (Some a) items = items a

-- the items of blocks, one block behind the other
abbrev pub joined : {X : Type 0} → List (List X) → List X
joined [] = []
joined (block ∷ blocks) = block ++ joined blocks

-- each block has eight items
abbrev pub AreFull : {X : Type 0} → List (List X) → Type 0
AreFull [] = ⊤
AreFull (block ∷ blocks) = (length block ≡ 8) × AreFull blocks

-- the blocks are full, and beside them stand the numbers of their items
pub record AreBlocks {X : Type 0} (number : X → ℕ) (blocks : List (List X)) (numbers : List ℕ) : Type 0 where
  pub full : AreFull blocks
  pub numbered : numbers ≡ map number (joined blocks)

-- the items at these places, in their order
abbrev pub picked : {X : Type 0} → List X → List ℕ → List X
picked items [] = []
picked items (place ∷ places) = cons_option (slice_get items place) (picked items places)

-- the items at these places, and all where none are told
abbrev pub chosen : {X : Type 0} → List X → List ℕ → List X
chosen items [] = items
chosen items (place ∷ places) = picked items (place ∷ places)

-- the places ascend, from the first of two bounds on and below the second
abbrev pub AreWithin : ℕ → ℕ → List ℕ → Type 0
AreWithin low high [] = ⊤
AreWithin low high (place ∷ places) = (low ≤ place) × ((place < high) × AreWithin (suc place) high places)

-- the places are of items that are there, and there is room to tell the places of all
pub record AreChosen {X : Type 0} (items : List X) (space : ℕ) (places : List ℕ) : Type 0 where
  pub within : AreWithin 0 (length items) places
  pub room : length items ≤ space
  pub counted : length items < 2 ^ 32

-- whether there is an item, and it passes
abbrev pub passes : {X : Type 0} → (X → Bool) → Option X → Bool
passes test None = false
passes test (Some x) = test x
