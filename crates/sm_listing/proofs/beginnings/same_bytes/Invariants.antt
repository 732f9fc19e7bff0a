use Rattle.std.proofs.Common.{◌≡◌, ◌+◌, drop}
use Rattle.sm_listing.specs.Beginnings.{alike}
use Rattle.sm_listing.proofs.beginnings.same_bytes.Given as goal

abbrev pub invariant-loop-bytes : goal.invariant-loop-bytes
invariant-loop-bytes l = l.bytes + alike (drop l.bytes l.one) (drop l.bytes l.other) ≡ alike l.one l.other
