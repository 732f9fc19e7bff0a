use Rattle.std.proofs.Common.{◌≡◌, take}
use Rattle.sm_listing.specs.Beginnings.{partings_with}
use Rattle.sm_listing.proofs.beginnings.partings_with.Given as goal

abbrev pub invariant-loop-value : goal.invariant-loop-value
invariant-loop-value l = l.partings.items ≡ partings_with l.beginning (take l.value-index l.values)
