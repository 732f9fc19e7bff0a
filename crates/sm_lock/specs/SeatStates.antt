-- Where the seat of a pass, of a note or of a held value stands.
use Rattle.std.specs.Prelude.{◌≡◌, ◌⊎◌, ℕ, List, [], ◌∷◌, ◌++◌, Option, None}
use Rattle.atomic_table.specs.Table.{Me}
use Rattle.sm_lock.specs.declared.view.QueuePlace.TheVariants.{Out, Holding}
use Rattle.sm_lock.specs.declared.view.View.{View}
use Rattle.sm_lock.specs.View.{nothing, ticket}

abbrev Sat : Type 0 → Type 0 → Type 0 → Type 0
Sat T O E = Me (Option T) (View O E)

-- it is told nothing, and gives no number
pub record IsPlain {O E : Type 0} (v : View O E) : Type 0 where
  pub told : v.told ≡ nothing
  pub given : v.given ≡ 0

-- the seat is outside, and has these numbers
pub record Outside {T O E : Type 0} (all : List ℕ) (m : Sat T O E) : Type 0 where
  pub turn : m.0.turn ≡ Out
  pub numbers : m.0.own.numbers ≡ all
  pub plain : IsPlain m.0
  pub empty : m.1 ≡ []

-- the seat is inside, has this number alone, and its slot is empty, since the value is beside it
pub record Carries {T O E : Type 0} (number : ℕ) (m : Sat T O E) : Type 0 where
  pub turn : m.0.turn ≡ Holding (ticket m.0.turn)
  pub numbers : m.0.own.numbers ≡ number ∷ []
  pub plain : IsPlain m.0
  pub empty : m.1 ≡ (0, None) ∷ []

-- the list is what the seat has seen, or that and one entry of its one number
abbrev pub AddsOne : {O E : Type 0} → View O E → List (ℕ × E) → ℕ → Type 0
AddsOne {O} {E} v after more =
    ((more ≡ 0) × (after ≡ v.own.seen))
    ⊎ ((number : ℕ) × (entry : E) × (more ≡ 1) × (v.own.numbers ≡ number ∷ [])
    × (after ≡ v.own.seen ++ (number, entry) ∷ []))
