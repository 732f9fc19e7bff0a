use Rattle.std.proofs.Common.{take}
use Rattle.sm_encoded_size.specs.Typed.{VersionsTyped}
use Rattle.sm_encoded_size.proofs.typed.note_versions.Given as goal

abbrev pub invariant-loop-at : goal.invariant-loop-at
invariant-loop-at l = VersionsTyped (take l.at l.versions)
