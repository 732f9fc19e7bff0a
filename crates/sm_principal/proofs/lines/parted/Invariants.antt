use Rattle.std.proofs.Common.{◌≡◌, take, drop}
use Rattle.sm_principal.specs.Lines.{parted}
use Rattle.sm_principal.proofs.LineLemmas.{with_before}
use Rattle.sm_principal.proofs.lines.parted.Given as goal

-- none of those that were passed is the byte
abbrev pub invariant-loop-place : goal.invariant-loop-place
invariant-loop-place l = parted l.byte l.text ≡ with_before (take l.place l.text) (parted l.byte (drop l.place l.text))
