use Rattle.std.proofs.Common.{◌≡◌, ◌≤◌, take, filter, length}
use Rattle.sm_model.specs.Versions.{is_kept}
use Rattle.sm_versions.proofs.pruning.kept_count.Given as goal

abbrev pub invariant-loop-place : goal.invariant-loop-place
invariant-loop-place l =
    (l.count ≡ length (filter (is_kept l.row l.moment) (take l.place l.row.versions))) × (l.count ≤ l.place)
