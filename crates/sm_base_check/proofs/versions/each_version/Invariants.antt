use Rattle.std.proofs.Common.{◌≡◌, true, take}
use Rattle.sm_versions.specs.Sound.{each_version}
use Rattle.sm_base_check.proofs.versions.each_version.Given as goal

abbrev pub invariant-loop-at : goal.invariant-loop-at
invariant-loop-at l = each_version (take l.at l.versions) ≡ true
