-- Which of the connections of a worker has the least key.
use Rattle.std.specs.Prelude.{◌≡◌, ℕ, ◌<◌, ◌≤◌, ⊤, Option, Some, None, nat_lt, if◌then◌else◌}
use Rattle.sm_visits.specs.Connections.{Table, here}

-- the lesser of the one so far and a later one, and the first of two that are equal
abbrev pub lesser_of : Option (ℕ × ℕ) → ℕ → Option ℕ → Option (ℕ × ℕ)
lesser_of least place None = least
lesser_of None place (Some found) = Some (place, found)
lesser_of (Some least) place (Some found) = if nat_lt found least.1 then Some (place, found) else Some least

-- a connection at this place, with this key or none, comes behind the one at the place `first` with the key `least`
abbrev pub IsBehind : ℕ → ℕ → ℕ → Option ℕ → Type 0
IsBehind first least place None = ⊤
IsBehind first least place (Some key) = (least ≤ key) × (place < first → least < key)

module _ {C : Type 0} (gives : C → Option ℕ → Type 0) (t : Table C) where
  -- of the connections that are here at places below `most`, the one at `first` has this key, and all come behind it
  pub record IsLeastBelow (most first least : ℕ) : Type 0 where
    pub connection : C
    pub at : here t first ≡ Some connection
    pub has : gives connection (Some least)
    pub all : (place : ℕ) (other : C) → place < most → here t place ≡ Some other
        → (key : Option ℕ) × gives other key × IsBehind first least place key

  -- none of them has a key
  abbrev pub NoKeyBelow : ℕ → Type 0
  NoKeyBelow most = (place : ℕ) (other : C) → place < most → here t place ≡ Some other → gives other None

  abbrev pub LeastBelow : ℕ → Option (ℕ × ℕ) → Type 0
  LeastBelow most None = NoKeyBelow most
  LeastBelow most (Some least) = (least.0 < most) × IsLeastBelow most least.0 least.1

  -- of all of them, wherever they are
  abbrev pub IsFirstLeast : Option ℕ → Type 0
  IsFirstLeast None = (most : ℕ) → NoKeyBelow most
  IsFirstLeast (Some first) = (least : ℕ) × ((most : ℕ) → IsLeastBelow most first least)
