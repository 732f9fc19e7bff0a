use Rattle.std.proofs.Common.{◌≡◌, ◌<◌, ◌≤◌, ℕ, length, slice_index, bit_and}
use Rattle.sm_policy.proofs.place_set.keep.Given as goal

abbrev pub invariant-loop-index : goal.invariant-loop-index
invariant-loop-index l =
    ((k : ℕ) → k < l.index → slice_index l.set k ≡ bit_and (slice_index l.fn.set k) (slice_index l.other k))
    × ((k : ℕ) → l.index ≤ k → slice_index l.set k ≡ slice_index l.fn.set k)
