use Rattle.std.proofs.Common.{◌≡◌, ◌+◌, drop}
use Rattle.sm_base.specs.Parts.{reach, reach_from}
use Rattle.sm_base.proofs.parts.Part.reach.Given as goal

abbrev pub invariant-loop-place : goal.invariant-loop-place
invariant-loop-place l = l.place + reach_from l.self l.place (drop l.place l.text) ≡ reach l.self l.text
