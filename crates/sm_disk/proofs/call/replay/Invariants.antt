use Rattle.std.proofs.Common.{◌≡◌, drop}
use Rattle.sm_disk.specs.Calls.{replayed}
use Rattle.sm_disk.proofs.call.replay.Given as goal

abbrev pub invariant-loop-call : goal.invariant-loop-call
invariant-loop-call l = replayed l.file (drop l.call-index l.calls) l.bytes.items
    ≡ replayed l.file l.calls l.fn.bytes.items
