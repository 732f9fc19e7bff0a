use Rattle.std.proofs.Common.{◌≡◌, ◌⊎◌}
use Rattle.sm_lock.specs.declared.view.QueuePlace.TheVariants.{Parked}
use Rattle.sm_lock.specs.View.{turned, ticket}
use Rattle.sm_lock.proofs.gate.Gate.park_until_served.Given as goal

-- it waits as it did at first, or has been parked
abbrev pub invariant-loop : goal.invariant-loop
invariant-loop g l =
    let v = l.fn.place.me.0 in
    (l.place.table_id ≡ l.fn.place.table_id)
    × ((l.place.me ≡ l.fn.place.me) ⊎ (l.place.me ≡ (turned (Parked (ticket v.turn)) v, l.fn.place.me.1)))
