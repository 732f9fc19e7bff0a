use Rattle.std.proofs.Common.{◌≡◌, ◌++◌, take}
use Rattle.sm_base.proofs.entry.add_shared.Given as goal

abbrev pub invariant-loop-entry : goal.invariant-loop-entry
invariant-loop-entry g l = l.entries.items ≡ l.initial.entries.items ++ take l.entry-index l.shared
