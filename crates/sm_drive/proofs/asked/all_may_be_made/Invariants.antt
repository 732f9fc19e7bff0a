use Rattle.std.proofs.Common.{take}
use Rattle.sm_drive.specs.Asked.{AllMayBeMade}
use Rattle.sm_drive.proofs.asked.all_may_be_made.Given as goal

abbrev pub invariant-loop-call : goal.invariant-loop-call
invariant-loop-call l = AllMayBeMade (take l.call-index l.calls)
