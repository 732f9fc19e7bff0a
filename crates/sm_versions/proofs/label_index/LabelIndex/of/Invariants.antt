use Rattle.std.proofs.Common.{◌≡◌, take}
use Rattle.sm_versions.specs.Places.{each_place}
use Rattle.sm_versions.proofs.label_index.LabelIndex.of.Given as goal

abbrev pub invariant-loop-pair : goal.invariant-loop-pair
invariant-loop-pair l = l.places.items ≡ each_place l.row.versions (take l.pair-index l.pairs)
