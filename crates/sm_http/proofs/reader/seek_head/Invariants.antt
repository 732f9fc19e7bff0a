use Rattle.std.proofs.Common.{◌≡◌, ◌-◌, length, take}
use Rattle.sm_http.specs.Heads.{Passed, head_limit}
use Rattle.sm_http.specs.Ahead.{Moves}
use Rattle.sm_http.specs.Waiting.{LacksHead}
use Rattle.sm_http.proofs.reader.seek_head.Given as goal

abbrev pub invariant-loop-ahead : goal.invariant-loop-ahead
invariant-loop-ahead g l =
    Moves l.initial.ahead l.ahead (g.S.Source.left l.initial.source) (g.S.Source.left l.source)
    × (g.S.Source.source_faults l.source ≡ g.S.Source.source_faults l.initial.source)
    × (g.S.Source.beside_source l.source ≡ g.S.Source.beside_source l.initial.source)
    × Passed l.passed (take head_limit l.ahead)
    × ((LacksHead l.initial.ahead → ⊥) → (l.source ≡ l.initial.source) × (l.ahead ≡ l.initial.ahead))

abbrev pub decreases-loop-ahead : goal.decreases-loop-ahead
decreases-loop-ahead g l = head_limit - length l.ahead
