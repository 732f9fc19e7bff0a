use Rattle.std.proofs.Common.{◌+◌, ◌-◌, length}
use Rattle.sm_replica.specs.Shipped.{base_of, entries_of}
use Rattle.sm_replica.proofs.ShipLemmas.{Shipped}
use Rattle.sm_replica.proofs.shipping.ship.Given as goal

abbrev pub invariant-loop-frames : goal.invariant-loop-frames
invariant-loop-frames g l = Shipped (base_of l.account) (entries_of l.account) l.position l.frames.items l.at

abbrev pub decreases-loop-frames : goal.decreases-loop-frames
decreases-loop-frames g l = (base_of l.account).entries + length (entries_of l.account) - l.at
