use Rattle.std.proofs.Common.{◌≡◌, ◌≤◌, ◌-◌, ◌++◌, vec_capacity}
use Rattle.std.specs.List.{range_with_len}
use Rattle.sm_base.proofs.front.tell.Given as goal

abbrev pub invariant-loop-at : goal.invariant-loop-at
invariant-loop-at l =
    (l.places.items ≡ l.initial.places.items ++ range_with_len l.from (l.at - l.from))
    × (l.from ≤ l.at) × (vec_capacity l.initial.places ≤ vec_capacity l.places)
