use Rattle.std.proofs.Common.{◌≡◌, drop}
use Rattle.sm_sigv4.specs.Texts.{past_spaces}
use Rattle.sm_sigv4.proofs.texts.past_spaces.Given as goal

-- those that were passed are spaces
abbrev pub invariant-loop-place : goal.invariant-loop-place
invariant-loop-place l = past_spaces l.text ≡ past_spaces (drop l.place l.text)
