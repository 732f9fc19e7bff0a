use Rattle.std.proofs.Common.{◌≡◌, take}
use Rattle.sm_record.specs.Series.{total}
use Rattle.sm_record.proofs.bodies.total.Given as goal

abbrev pub invariant-loop-body : goal.invariant-loop-body
invariant-loop-body l = l.sum ≡ total (take l.body-index l.bodies)
