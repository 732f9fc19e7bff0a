use Rattle.std.proofs.Common.{arith}
use Rattle.sm_visits.proofs.arrivals.Arrivals.push.Goals as goal

pub invariant_of-self : goal.invariant_of-self
invariant_of-self c =
    let moved = c.without_front-self-inside.ensures.len in
    (omega (arith, moved, c.self.invariant.0, c.in_err-extend_from_slice.ensures.len), c.self.invariant.1)

pub invariant_of-self-2 : goal.invariant_of-self-2
invariant_of-self-2 c =
    let moved = c.without_front-self-inside.ensures.len in
    (omega (arith, moved, c.self.invariant.0, c.in_ok-extend_from_slice.ensures.len), c.self.invariant.1)
