-- What each step tells its seat: of the step, the seat before, the word that was found and the seat after.
use Rattle.std.specs.Prelude.{◌≡◌, ◌≢◌, ℕ, ◌+◌, ◌%◌, ◌^◌, List, ◌∷◌, length, Option, Some}
use Rattle.atomic_table.specs.Table.{Me, Step, rest}
use Rattle.sm_lock.specs.declared.view.QueuePlace.TheVariants.{Out, Waiting, Flagged, Parked, Inside, Holding, Waking, Rousing}
use Rattle.sm_lock.specs.declared.view.View.{View}
use Rattle.sm_lock.specs.Rule.{flag_word}
use Rattle.sm_lock.specs.Story.{Grows}
use Rattle.sm_lock.specs.View.{turned, saw, merged, ticket}

abbrev Sat : Type 0 → Type 0 → Type 0 → Type 0
Sat T O E = Me (Option T) (View O E)

abbrev At : Type 0 → Type 0
At T = Step (Option T)

module _ {T O E : Type 0} where
  -- a ticket was drawn, and the word had it
  abbrev pub drew : At T → Sat T O E → ℕ → Sat T O E → Type 0
  drew st m found m' = (t : ℕ) × (found ≡ t % 2 ^ 64) × (m' ≡ (turned (Waiting t) m.0, m.1))

  -- where its ticket is served, it is inside and has seen the log
  abbrev pub looked : At T → Sat T O E → ℕ → Sat T O E → Type 0
  looked st m found m' = (t : ℕ) → m.0.turn ≡ Waiting t
      → (found ≡ t % 2 ^ 64 → (log : List (ℕ × E)) × Grows m.0.own.numbers m.0.own.seen log
      × (m' ≡ (turned (Inside t) (saw log m.0), m.1)))
      × (found ≢ t % 2 ^ 64 → m' ≡ m)

  -- its ticket's flag was raised, which is to write 1
  abbrev pub flagged : At T → Sat T O E → ℕ → Sat T O E → Type 0
  flagged st m found m' = (found ≡ 1) × (m' ≡ (turned (Flagged (ticket m.0.turn)) m.0, m.1))

  -- the same as `looked`, with its flag raised: where its ticket is not served, it may park
  abbrev pub looked_again : At T → Sat T O E → ℕ → Sat T O E → Type 0
  looked_again st m found m' = (t : ℕ) → m.0.turn ≡ Flagged t
      → (found ≡ t % 2 ^ 64 → (log : List (ℕ × E)) × Grows m.0.own.numbers m.0.own.seen log
      × (m' ≡ (turned (Inside t) (saw log m.0), m.1)))
      × (found ≢ t % 2 ^ 64 → m' ≡ (turned (Parked t) m.0, m.1))

  module _ (origin_of : T → O) (story_of : T → List (ℕ × E)) where
    -- the value is with it
    abbrev pub took : At T → Sat T O E → ℕ → Sat T O E → Type 0
    took st m found m' = (t : ℕ) → m.0.turn ≡ Inside t
        → (value : T) × (m' ≡ (turned (Holding t) m.0, (0, Some value) ∷ m.1)) × (story_of value ≡ m.0.own.seen)
        × (m.0.origin ≡ Some (origin_of value)) × (found ≡ length m.0.own.seen)

  module _ (story_of : T → List (ℕ × E)) where
    -- its list is that of the value which it carries
    abbrev pub raised : At T → Sat T O E → ℕ → Sat T O E → Type 0
    raised st m found m' = (value : T) (more : List (ℕ × Option T)) → m.1 ≡ (0, Some value) ∷ more
        → m' ≡ (saw (story_of value) m.0, m.1)

  -- the value is in the slot again
  abbrev pub returned : At T → Sat T O E → ℕ → Sat T O E → Type 0
  returned st m found m' = (t : ℕ) → m.0.turn ≡ Holding t → m' ≡ (turned (Inside t) m.0, rest m.1)

  -- the next ticket is served, and it has yet to see to that one's flag
  abbrev pub served : At T → Sat T O E → ℕ → Sat T O E → Type 0
  served st m found m' = (t : ℕ) → m.0.turn ≡ Inside t
      → (found ≡ t % 2 ^ 64) × (m' ≡ (turned (Waking (t + 1)) m.0, m.1))

  -- it has yet to see to the flag of the ticket that it served, and the step is on this flag
  abbrev pub IsOnItsFlag : At T → Sat T O E → Type 0
  IsOnItsFlag st m = (t : ℕ) × (m.0.turn ≡ Waking t) × (st.word ≡ flag_word t)

  -- where the flag was down, it is out
  abbrev pub saw_flag : At T → Sat T O E → ℕ → Sat T O E → Type 0
  saw_flag st m found m' = IsOnItsFlag st m × (found ≢ 0 → m' ≡ m) × (found ≡ 0 → m' ≡ (turned Out m.0, m.1))

  -- the flag was lowered, which is to write 0, and it has yet to wake who is parked on it
  abbrev pub lowered : At T → Sat T O E → ℕ → Sat T O E → Type 0
  lowered st m found m' =
      IsOnItsFlag st m × (found ≡ 0) × (m' ≡ (turned (Rousing (ticket m.0.turn)) m.0, m.1))

  -- it has lowered a flag, and is out
  abbrev pub roused : At T → Sat T O E → ℕ → Sat T O E → Type 0
  roused st m found m' = ((t : ℕ) × (m.0.turn ≡ Rousing t)) × (m' ≡ (turned Out m.0, m.1))

  -- what it was told is taken in, and the list that it has then extends both
  abbrev pub took_in : At T → Sat T O E → ℕ → Sat T O E → Type 0
  took_in st m found m' = (m' ≡ (merged m.0, m.1)) × Grows m.0.own.numbers m.0.own.seen m'.0.own.seen
      × Grows m.0.told.numbers m.0.told.seen m'.0.own.seen
