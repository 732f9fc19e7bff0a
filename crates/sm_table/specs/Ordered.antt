-- Lists in an order that a test gives.
use Rattle.std.specs.Prelude.{ℕ, zero, suc, Bool, true, not, ◌&&◌, List, [], ◌∷◌, if◌then◌else◌}

module _ {X : Type 0} (lt : X → X → Bool) where
  -- how many from the front on are before this one
  abbrev pub before : List X → X → ℕ
  before [] x = zero
  before (y ∷ ys) x = if lt y x then suc (before ys x) else zero

  -- this one put in behind those that are before it
  abbrev pub placed : List X → X → List X
  placed [] x = x ∷ []
  placed (y ∷ ys) x = if lt y x then y ∷ placed ys x else x ∷ y ∷ ys

  -- this one taken out, if it stands behind those that are before it
  abbrev pub taken : List X → X → List X
  taken [] x = []
  taken (y ∷ ys) x = if lt y x then y ∷ taken ys x else (if lt x y then y ∷ ys else ys)

  -- the first of these is not before this one
  abbrev pub may_follow : X → List X → Bool
  may_follow x [] = true
  may_follow x (y ∷ ys) = not (lt y x)

  -- none is before the one that it follows
  abbrev pub ordered : List X → Bool
  ordered [] = true
  ordered (x ∷ xs) = may_follow x xs && ordered xs
