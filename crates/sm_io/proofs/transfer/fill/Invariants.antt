use Rattle.std.proofs.Common.{◌≡◌, ◌-◌, ◌≤◌, take, vec_len}
use Rattle.std.specs.Io.KnownBytes.{prepend_known}
use Rattle.sm_io.proofs.transfer.fill.Given as goal

abbrev pub invariant-loop-at : goal.invariant-loop-at
invariant-loop-at g l =
    (l.at ≤ l.limit) × (l.at ≤ vec_len l.vec)
    × (g.S.Source.left l.initial.source ≡ prepend_known (take l.at l.vec.items) (g.S.Source.left l.source))
    × (g.S.Source.source_faults l.source ≡ g.S.Source.source_faults l.initial.source)
    × (g.S.Source.beside_source l.source ≡ g.S.Source.beside_source l.initial.source)

abbrev pub decreases-loop-at : goal.decreases-loop-at
decreases-loop-at g l = l.limit - l.at
