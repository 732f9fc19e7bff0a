use Rattle.std.proofs.Common.{◌≤◌, ◌*◌, take}
use Rattle.sm_base.specs.declared.limits.TheConstants.{VERSIONS_LIMIT}
use Rattle.sm_table.specs.Sweep.{swept}
use Rattle.sm_summary.specs.Summary.{IsShown}
use Rattle.sm_summary.proofs.walk.show_rows.Given as goal

abbrev pub invariant-loop-place : goal.invariant-loop-place
invariant-loop-place l =
    IsShown (swept (take l.place l.table.secrets) l.moment) l.shown × (l.shown.secrets ≤ l.place)
    × (l.shown.versions ≤ VERSIONS_LIMIT * l.place)
