use Rattle.std.proofs.Common.{◌≡◌, true, length, map, take, IfSome}
use Rattle.std.specs.List.{list_all}
use Rattle.sm_listing.specs.declared.beginnings.TagPart.TheVariants.{Key, Value}
use Rattle.sm_listing.specs.Beginnings.{text_of, values_of, AreMarks}
use Rattle.sm_listing.specs.Filters.{filter_holds}
use Rattle.sm_listing.proofs.filters.all_sought_hold.Given as goal

abbrev pub invariant-loop-filter : goal.invariant-loop-filter
invariant-loop-filter l =
    (l.first ≡ length (values_of (take l.filter-index l.filters)))
    × IfSome l.keys (AreMarks (map (text_of Key) l.row.tags) l.sought.values)
    × IfSome l.values (AreMarks (map (text_of Value) l.row.tags) l.sought.values)
    × (list_all (filter_holds l.row) (take l.filter-index l.filters) ≡ true)
