use Rattle.std.proofs.Common.{◌≡◌, take}
use Rattle.sm_listing.specs.Beginnings.{values_of}
use Rattle.sm_listing.proofs.beginnings.values_of.Given as goal

abbrev pub invariant-loop-filter : goal.invariant-loop-filter
invariant-loop-filter l = l.values.items ≡ values_of (take l.filter-index l.filters)
