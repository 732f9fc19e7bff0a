use Rattle.std.proofs.Common.{◌≡◌, drop, map}
use Rattle.sm_disk.specs.Calls.{replayed, filled}
use Rattle.sm_disk.proofs.call.replay_filled.Given as goal

abbrev pub invariant-loop-call : goal.invariant-loop-call
invariant-loop-call l = replayed l.file (map (filled l.fill) (drop l.call-index l.calls)) l.bytes.items
    ≡ replayed l.file (map (filled l.fill) l.calls) l.fn.bytes.items
