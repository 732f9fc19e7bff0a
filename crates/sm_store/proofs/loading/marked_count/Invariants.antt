use Rattle.std.proofs.Common.{◌≡◌, ◌+◌, drop}
use Rattle.std.specs.List.{prefix_len}
use Rattle.sm_store.specs.Loading.{is_marked, marked_count}
use Rattle.sm_store.proofs.loading.marked_count.Given as goal

abbrev pub invariant-loop-index : goal.invariant-loop-index
invariant-loop-index l = marked_count l.bodies ≡ l.index + prefix_len is_marked (drop l.index l.bodies)
