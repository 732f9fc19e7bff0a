use Rattle.std.proofs.Common.{◌≡◌, ◌-◌, ◌*◌, ◌<◌, ℕ, slice_index}
use Rattle.std.specs.Prelude.{nat_le}
use Rattle.sm_policy.proofs.PlaceSetLemmas.{bit_is}
use Rattle.sm_policy.proofs.place_set.fill_from.Given as goal

abbrev pub invariant-loop-index : goal.invariant-loop-index
invariant-loop-index l =
    (k : ℕ) → k < l.index → (place : ℕ) → place < 64
    → bit_is (slice_index l.set k) place ≡ nat_le (l.low - 64 * k) place
