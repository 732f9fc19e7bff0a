use Rattle.std.proofs.Common.{◌≡◌, drop, take}
use Rattle.sm_replica.specs.Shipped.{entries_of}
use Rattle.sm_replica.proofs.shipping.entries_from.Given as goal

abbrev pub invariant-loop-k : goal.invariant-loop-k
invariant-loop-k g l = l.entries.items ≡ take l.k (drop l.place (entries_of l.account))
