use Rattle.std.proofs.Common.{◌≡◌, ◌++◌, map, take}
use Rattle.sm_base.specs.Sums.{sum_of}
use Rattle.sm_base.proofs.blocks.add_sums.Given as goal

abbrev pub invariant-loop-entry : goal.invariant-loop-entry
invariant-loop-entry g l =
    l.sums.items
    ≡ l.initial.sums.items ++ map (λ item. sum_of (g.T.Keyed.key item)) (take l.entry-index l.entries)
