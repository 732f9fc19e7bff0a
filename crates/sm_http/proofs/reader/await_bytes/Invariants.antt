use Rattle.std.proofs.Common.{◌≡◌, ◌-◌, ◌≤◌, length}
use Rattle.sm_http.specs.Ahead.{Moves}
use Rattle.sm_http.proofs.reader.await_bytes.Given as goal

abbrev pub invariant-loop-ahead : goal.invariant-loop-ahead
invariant-loop-ahead g l =
    Moves l.initial.ahead l.ahead (g.S.Source.left l.initial.source) (g.S.Source.left l.source)
    × (g.S.Source.source_faults l.source ≡ g.S.Source.source_faults l.initial.source)
    × (g.S.Source.beside_source l.source ≡ g.S.Source.beside_source l.initial.source)
    × (l.count ≤ length l.initial.ahead → l.source ≡ l.initial.source)

abbrev pub decreases-loop-ahead : goal.decreases-loop-ahead
decreases-loop-ahead g l = l.count - length l.ahead
