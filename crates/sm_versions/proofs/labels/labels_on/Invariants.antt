use Rattle.std.proofs.Common.{◌≡◌, take}
use Rattle.sm_versions.specs.Labels.{labels_on}
use Rattle.sm_versions.proofs.labels.labels_on.Given as goal

abbrev pub invariant-loop-pair : goal.invariant-loop-pair
invariant-loop-pair l = l.labels.items ≡ labels_on (take l.pair-index l.pairs) l.id
