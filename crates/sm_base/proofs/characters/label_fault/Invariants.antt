use Rattle.std.proofs.Common.{◌≡◌, drop}
use Rattle.sm_base.specs.Characters.{fault_after, no_progress}
use Rattle.sm_base.proofs.characters.label_fault.Given as goal

abbrev pub invariant-loop-place : goal.invariant-loop-place
invariant-loop-place l = fault_after l.progress l.place (drop l.place l.text) ≡ fault_after no_progress 0 l.text
