-- What a seat does, one thing after the other, and what passes between.
use Rattle.std.specs.Prelude.{◌≡◌, ℕ, List, [], ◌∷◌}
use Rattle.sm_lock.specs.Story.{Grows}
use Rattle.sm_session.specs.Sessions.{LocalState}

-- Things of which each leads from a point to a point. What passes before the first, between two and behind the last is
-- a waiting.
module _ {P T : Type 0} (waiting : P → P → Type 0) (start end : T → P) where
  abbrev pub Chain : P → List T → P → Type 0
  Chain from [] to = waiting from to
  Chain from (x ∷ xs) to = waiting from (start x) × Chain (end x) xs to

-- While a seat waits, others may add to the history. Nothing else is told, and no count grows.
pub record Waits (seat : ℕ) (from to : LocalState) : Type 0 where
  pub seen : Grows (seat ∷ []) from.seen to.seen
  pub readings : to.readings ≡ from.readings
  pub drawn : to.drawn ≡ from.drawn
  pub random : to.random ≡ from.random
