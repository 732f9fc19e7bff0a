use Rattle.std.proofs.Common.{◌≡◌, take, drop}
use Rattle.sm_sigv4.specs.Texts.{pieces}
use Rattle.sm_sigv4.proofs.TextLemmas.{with_front}
use Rattle.sm_sigv4.proofs.texts.first_piece.Given as goal

-- none of those that were passed is the byte
abbrev pub invariant-loop-place : goal.invariant-loop-place
invariant-loop-place l = pieces l.byte l.text ≡ with_front (take l.place l.text) (pieces l.byte (drop l.place l.text))
