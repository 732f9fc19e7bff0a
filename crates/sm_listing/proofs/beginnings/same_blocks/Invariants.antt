use Rattle.std.proofs.Common.{◌≤◌, ◌-◌}
use Rattle.sm_listing.specs.Beginnings.{alike}
use Rattle.sm_listing.proofs.beginnings.same_blocks.Given as goal

abbrev pub invariant-loop-bytes : goal.invariant-loop-bytes
invariant-loop-bytes l = (l.bytes ≤ l.both) × (l.bytes ≤ alike l.one l.other)

abbrev pub decreases-loop-bytes : goal.decreases-loop-bytes
decreases-loop-bytes l = l.both - l.bytes
