use Rattle.std.proofs.Common.{map, take}
use Rattle.sm_listing.specs.Beginnings.{text_of, AreMarks}
use Rattle.sm_listing.proofs.beginnings.marks_of.Given as goal

abbrev pub invariant-loop-at : goal.invariant-loop-at
invariant-loop-at l = AreMarks (take l.at (map (text_of l.part) l.tags)) l.sought.values l.marks
