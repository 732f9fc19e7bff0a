use Rattle.std.proofs.Common.{◌≡◌, drop}
use Rattle.sm_versions.specs.Serials.{rises}
use Rattle.sm_base_check.proofs.rising.all_rise.Given as goal

abbrev pub invariant-loop-at : goal.invariant-loop-at
invariant-loop-at g l =
    rises l.low (drop l.at (g.T.Made.serials l.things)) l.next ≡ rises 0 (g.T.Made.serials l.things) l.next
