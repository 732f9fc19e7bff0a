use Rattle.std.proofs.Common.{◌≡◌, ◌+◌, drop}
use Rattle.sm_listing.specs.Filters.{first_fault}
use Rattle.sm_listing.proofs.filters.first_fault.Given as goal

abbrev pub invariant-loop-place : goal.invariant-loop-place
invariant-loop-place l = first_fault (l.place + 1) (drop l.place l.filters) ≡ first_fault 1 l.filters
