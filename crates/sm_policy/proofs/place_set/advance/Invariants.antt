use Rattle.std.proofs.Common.{◌≡◌, ◌<◌, ◌≤◌, ℕ, length, slice_index}
use Rattle.sm_policy.proofs.PlaceSetLemmas.{carried, put_on}
use Rattle.sm_policy.proofs.place_set.advance.Given as goal

abbrev pub invariant-loop-index : goal.invariant-loop-index
invariant-loop-index l =
    ((k : ℕ) → k < l.index → slice_index l.set k ≡ put_on (slice_index l.fn.set k) (carried l.fn.set k))
    × ((k : ℕ) → l.index ≤ k → slice_index l.set k ≡ slice_index l.fn.set k)
    × (l.carry ≡ carried l.fn.set l.index)
    × ((k : ℕ) → k ≤ l.index → carried l.fn.set k < 2)
