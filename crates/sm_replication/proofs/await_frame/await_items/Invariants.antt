use Rattle.std.proofs.Common.{◌≡◌, ◌-◌, drop}
use Rattle.sm_http.specs.Ahead.{Moves}
use Rattle.sm_replication.specs.declared.input.TheConstants.{LIST_LIMIT}
use Rattle.sm_replication.specs.Extents.{items_extent}
use Rattle.sm_replication.specs.Waiting.{Waits}
use Rattle.sm_replication.proofs.WalkLemmas.{Walked}
use Rattle.sm_replication.proofs.await_frame.await_items.Given as goal

abbrev pub invariant-loop : goal.invariant-loop
invariant-loop g l =
    Moves l.initial.ahead l.ahead (g.S.Source.left l.initial.source) (g.S.Source.left l.source)
    × (g.S.Source.source_faults l.source ≡ g.S.Source.source_faults l.initial.source)
    × (g.S.Source.beside_source l.source ≡ g.S.Source.beside_source l.initial.source)
    × Walked l.count l.room (drop l.start l.ahead) l.passed (l.count - l.counter)
    × Waits (items_extent l.count LIST_LIMIT (drop l.start l.initial.ahead)) l.initial.source l.source
