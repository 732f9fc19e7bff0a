-- A clock that stands.
use Rattle.std.specs.Prelude.{ℕ, List, replicate}
use Rattle.sm_base.specs.declared.moment.Moment.{Moment}

-- the moment that it reads, and how often it was read
pub record FixedState : Type 0 where
  pub moment : Moment
  pub count : ℕ

-- the readings so far
abbrev pub fixed_readings : FixedState → List ℕ
fixed_readings state = replicate state.count state.moment.0
