use Rattle.std.proofs.Common.{◌≤◌, ◌*◌, take}
use Rattle.sm_base.specs.declared.limits.TheConstants.{VERSIONS_LIMIT}
use Rattle.sm_table.specs.Sweep.{swept}
use Rattle.sm_summary.specs.Summary.{IsCounted}
use Rattle.sm_summary.proofs.walk.count_rows.Given as goal

abbrev pub invariant-loop-place : goal.invariant-loop-place
invariant-loop-place l =
    IsCounted (swept (take l.place l.table.secrets) l.moment) l.counted × (l.counted.secrets ≤ l.place)
    × (l.counted.versions ≤ VERSIONS_LIMIT * l.place)
