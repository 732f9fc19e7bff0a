use Rattle.std.proofs.Common.{◌≡◌, ◌-◌, ◌≤◌, length, take}
use Rattle.std.specs.Io.KnownBytes.{append_known}
use Rattle.sm_io.proofs.transfer.put_all.Given as goal

abbrev pub invariant-loop-at : goal.invariant-loop-at
invariant-loop-at g l =
    (l.at ≤ length l.piece)
    × (g.K.Sink.taken l.sink ≡ append_known (g.K.Sink.taken l.initial.sink) (take l.at l.piece))
    × (g.K.Sink.sink_faults l.sink ≡ g.K.Sink.sink_faults l.initial.sink)
    × (g.K.Sink.beside_sink l.sink ≡ g.K.Sink.beside_sink l.initial.sink)

abbrev pub decreases-loop-at : goal.decreases-loop-at
decreases-loop-at g l = length l.piece - l.at
