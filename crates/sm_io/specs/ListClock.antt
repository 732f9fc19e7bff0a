-- A clock that reads a list of moments.
use Rattle.std.specs.Prelude.{ℕ, zero, suc, List, [], ◌∷◌, ◌≤◌, map, All}
use Rattle.std.specs.List.{range_with_len}
use Rattle.sm_base.specs.declared.moment.Moment.{Moment}
use Rattle.sm_base.specs.declared.moment.TheConstants.{LAST_READING}

-- the moments that it reads, and how often it was read
pub record ListClockState : Type 0 where
  pub moments : List Moment
  pub count : ℕ

-- each moment is one that a clock can read
abbrev pub AreReadings : List Moment → Type 0
AreReadings moments = All (λ moment. moment.0 ≤ LAST_READING) moments

-- the reading at a place, counted from 0: the moment there, the last one from then on, and 0 where there is none
abbrev pub reading_at : List Moment → ℕ → ℕ
reading_at [] k = 0
reading_at (moment ∷ []) k = moment.0
reading_at (moment ∷ (next ∷ rest)) zero = moment.0
reading_at (moment ∷ (next ∷ rest)) (suc k) = reading_at (next ∷ rest) k

-- the readings so far
abbrev pub list_readings : ListClockState → List ℕ
list_readings state = map (λ k. reading_at state.moments k) (range_with_len 0 state.count)
