use Rattle.std.proofs.Common.{◌≡◌, ◌-◌, ◌≤◌, length, drop}
use Rattle.sm_record.specs.Series.{read_times}
use Rattle.sm_record.proofs.SequelLemmas.{with_first}
use Rattle.sm_record.proofs.bodies.times_at.Given as goal

abbrev pub invariant-loop : goal.invariant-loop
invariant-loop g l =
    (with_first l.items.items (read_times (g.A.Sequel.series l.edition) (l.count - l.counter) (drop l.at l.bodies))
    ≡ read_times (g.A.Sequel.series l.edition) l.count l.bodies) × (l.at ≤ length l.bodies)
