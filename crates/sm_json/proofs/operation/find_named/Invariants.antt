use Rattle.std.proofs.Common.{◌≡◌, drop}
use Rattle.sm_json.specs.Operations.{find_named}
use Rattle.sm_json.proofs.operation.find_named.Given as goal

-- none of those that were passed has the name
abbrev pub invariant-loop-operation : goal.invariant-loop-operation
invariant-loop-operation l = find_named l.name (drop l.operation-index l.operations) ≡ find_named l.name l.operations
