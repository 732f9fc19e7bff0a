use Rattle.std.proofs.Common.{◌≡◌, ◌++◌, take, drop}
use Rattle.sm_sigv4.specs.Texts.{single_spaced}
use Rattle.sm_sigv4.proofs.canonical.double_space.Given as goal

-- none of the spaces that were passed has one behind it
abbrev pub invariant-loop-place : goal.invariant-loop-place
invariant-loop-place l = single_spaced l.text ≡ take l.place l.text ++ single_spaced (drop l.place l.text)
