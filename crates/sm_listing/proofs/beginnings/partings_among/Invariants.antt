use Rattle.std.proofs.Common.{◌≡◌, take}
use Rattle.sm_listing.specs.Beginnings.{partings_among}
use Rattle.sm_listing.proofs.beginnings.partings_among.Given as goal

abbrev pub invariant-loop-value : goal.invariant-loop-value
invariant-loop-value l = l.among.items ≡ partings_among (take l.value-index l.values) l.values
