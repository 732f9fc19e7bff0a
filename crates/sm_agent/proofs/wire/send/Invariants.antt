use Rattle.std.proofs.Common.{◌≤◌, ◌-◌, length, take}
use Rattle.std.specs.Io.KnownBytes.{Appends}
use Rattle.sm_agent.proofs.wire.send.Given as goal

abbrev pub invariant-loop-sent : goal.invariant-loop-sent
invariant-loop-sent g l =
    (l.sent ≤ length l.bytes)
    × Appends (g.S.Write.contents l.initial.stream) (g.S.Write.contents l.stream) (take l.sent l.bytes)

abbrev pub decreases-loop-sent : goal.decreases-loop-sent
decreases-loop-sent g l = length l.bytes - l.sent
