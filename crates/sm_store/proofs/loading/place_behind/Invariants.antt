use Rattle.std.proofs.Common.{◌≡◌, take}
use Rattle.sm_journal.specs.Records.{place_behind}
use Rattle.sm_store.proofs.loading.place_behind.Given as goal

abbrev pub invariant-loop-index : goal.invariant-loop-index
invariant-loop-index l = l.place ≡ place_behind (take l.index l.bodies)
