use Rattle.std.proofs.Common.{◌≡◌, false, map, take, drop, IfSome}
use Rattle.std.specs.List.{list_any}
use Rattle.sm_listing.specs.Beginnings.{text_of, AreMarks}
use Rattle.sm_listing.specs.Filters.{value_holds}
use Rattle.sm_listing.proofs.beginnings.some_value_holds.Given as goal

abbrev pub invariant-loop-step : goal.invariant-loop-step
invariant-loop-step l =
    IfSome l.known (AreMarks (map (text_of l.part) l.tags) l.sought.values)
    × (list_any (value_holds (map (text_of l.part) l.tags)) (take l.step (drop l.first l.sought.values)) ≡ false)
