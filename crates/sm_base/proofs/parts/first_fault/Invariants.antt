use Rattle.std.proofs.Common.{◌≡◌, ◌≤◌, length, drop}
use Rattle.sm_base.specs.Parts.{fault_from}
use Rattle.sm_base.proofs.parts.first_fault.Given as goal

abbrev pub invariant-loop-part : goal.invariant-loop-part
invariant-loop-part l = record {
  within : l.at ≤ length l.text;
  so_far : fault_from l.at (drop l.part-index l.parts) (drop l.at l.text) ≡ fault_from 0 l.parts l.text;
}
