use Rattle.std.proofs.Common.{◌≡◌, take}
use Rattle.sm_model.specs.Versions.{newer_than}
use Rattle.sm_versions.proofs.pruning.greatest.Given as goal

abbrev pub invariant-loop-place : goal.invariant-loop-place
invariant-loop-place l = newer_than (take l.place l.versions) l.greatest ≡ 0
