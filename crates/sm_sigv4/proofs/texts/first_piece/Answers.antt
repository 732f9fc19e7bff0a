use Rattle.std.proofs.Common.{arith}
use Rattle.sm_sigv4.proofs.TextLemmas.{piece_here}
use Rattle.sm_sigv4.proofs.texts.first_piece.Goals as goal

pub returns-then-found-byte-clause-first : goal.returns-then-found-byte-clause-first
returns-then-found-byte-clause-first c =
    piece_here c.args.byte c.args.text.now c.loop-place.place (omega arith) c.loop-place.invariant _ _
    c.if-found-byte.true c.split_at.ensures.front c.split_at-then-found-byte.ensures.back
