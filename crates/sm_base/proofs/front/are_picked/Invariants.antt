use Rattle.std.proofs.Common.{◌≡◌, filter, take}
use Rattle.sm_base.proofs.front.are_picked.Given as goal

abbrev pub invariant-loop-at : goal.invariant-loop-at
invariant-loop-at g l = filter (g.P.Picks.picked l.picks) (take l.at l.head) ≡ take l.at l.head
