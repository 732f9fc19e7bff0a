use Rattle.std.proofs.Common.{take}
use Rattle.sm_record.specs.Series.{AreBytes}
use Rattle.sm_record.proofs.snapshot.note_all.Given as goal

abbrev pub invariant-loop-body : goal.invariant-loop-body
invariant-loop-body l = AreBytes (take l.body-index l.bodies)
