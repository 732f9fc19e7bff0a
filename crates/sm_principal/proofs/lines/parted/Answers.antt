use Rattle.std.proofs.Common.{arith}
use Rattle.sm_principal.proofs.LineLemmas.{parted_here}
use Rattle.sm_principal.proofs.lines.parted.Goals as goal

pub returns-then-found-byte : goal.returns-then-found-byte
returns-then-found-byte c =
    parted_here c.args.byte c.args.text.now c.loop-place.place (omega arith) _ _ _ c.if-found-byte.true
    c.loop-place.invariant c.split_at.ensures.front c.split_at-then-found-byte.ensures.back
