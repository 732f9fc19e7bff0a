use Rattle.std.proofs.Common.{◌≡◌, ◌≤◌, take}
use Rattle.sm_model.specs.Versions.{newer_than}
use Rattle.sm_versions.proofs.pruning.newer_than.Given as goal

abbrev pub invariant-loop-place : goal.invariant-loop-place
invariant-loop-place l = (l.newer ≡ newer_than (take l.place l.versions) l.serial) × (l.newer ≤ l.place)
