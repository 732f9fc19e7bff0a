use Rattle.std.proofs.Common.{◌≡◌, ◌++◌, take}
use Rattle.sm_base.proofs.blocks.add_blocks.Given as goal

abbrev pub invariant-loop-block : goal.invariant-loop-block
invariant-loop-block g l = l.blocks.items ≡ l.initial.blocks.items ++ take l.block-index l.shared
