use Rattle.std.proofs.Common.{◌≡◌, ◌≤◌, take}
use Rattle.sm_disk.specs.Calls.{synced_calls}
use Rattle.sm_disk.proofs.call.count_synced.Given as goal

abbrev pub invariant-loop-index : goal.invariant-loop-index
invariant-loop-index l =
    record { count : l.count ≡ synced_calls l.file (take l.index l.calls); within : l.count ≤ l.index }
