use Rattle.std.proofs.Common.{◌≡◌, ◌+◌, take}
use Rattle.sm_replication.specs.declared.input.TheConstants.{LIST_LIMIT}
use Rattle.sm_replication.specs.Parcels.{listed_size}
use Rattle.sm_replication.proofs.encoding.is_short.Given as goal

abbrev pub invariant-loop-body : goal.invariant-loop-body
invariant-loop-body l = listed_size (take l.body-index l.bodies) + l.left ≡ LIST_LIMIT
