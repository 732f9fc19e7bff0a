use Rattle.std.proofs.Common.{◌≡◌, ◌++◌, flat_map, take}
use Rattle.sm_record.specs.Fields.{octets}
use Rattle.sm_replication.proofs.encoding.put_bodies.Given as goal

abbrev pub invariant-loop-body : goal.invariant-loop-body
invariant-loop-body l = l.out.items ≡ l.fn.out.items ++ flat_map octets.spell (take l.body-index l.bodies)
