use Rattle.std.proofs.Common.{◌≡◌, [], ◌∷◌, ◌++◌, All, map}
use Rattle.sm_lock.specs.Story.{Grows}
use Rattle.sm_lock.specs.SeatStates.{Outside}
use Rattle.sm_lock.specs.Handles.{number, seen, IsSeatOf}
use Rattle.sm_lock.proofs.gate.Gate.gather.Given as goal

-- the place knows what these passes knew, and has their numbers
abbrev pub invariant-loop-pass : goal.invariant-loop-pass
invariant-loop-pass g l =
    let first = l.fn.first in
    IsSeatOf g.T.Storied.origin g.T.Storied.story l.self l.place
    × Outside (number first ∷ map number l.yielded) l.place.me
    × Grows (number first ∷ []) (seen first) l.place.me.0.own.seen
    × All (λ pass. Grows (number pass ∷ []) (seen pass) l.place.me.0.own.seen) l.yielded
    × (l.yielded ++ l.pass-iterator.rest.items ≡ l.fn.others.items)
