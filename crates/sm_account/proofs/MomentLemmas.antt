-- The moment of a call: the greater of the last entry's moment and the clock's reading.
use Rattle.std.proofs.Common.{◌≡◌, ℕ, max, ap}
use Rattle.sm_base.specs.declared.moment.Moment.{Moment}
use Rattle.sm_core.specs.Histories.{later}

pub moment_is : (last now : Moment) (n : ℕ) → n ≡ max last.0 now.0 → record { 0 = n } ≡ later last now
moment_is last now n is = let of : ℕ → Moment = λ k. record { 0 = k } in ap of is
