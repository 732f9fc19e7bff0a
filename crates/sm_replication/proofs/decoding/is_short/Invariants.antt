use Rattle.std.proofs.Common.{◌≡◌, ◌+◌, take}
use Rattle.sm_replication.specs.declared.input.TheConstants.{LIST_LIMIT}
use Rattle.sm_replication.specs.Parcels.{listed_size}
use Rattle.sm_replication.proofs.decoding.is_short.Given as goal

abbrev pub invariant-loop-item : goal.invariant-loop-item
invariant-loop-item l = listed_size (take l.item-index l.items) + l.left ≡ LIST_LIMIT
