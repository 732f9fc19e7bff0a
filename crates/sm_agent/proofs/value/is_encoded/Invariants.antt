use Rattle.std.proofs.Common.{◌≡◌, drop}
use Rattle.sm_agent.specs.Values.{is_encoded}
use Rattle.sm_agent.proofs.value.is_encoded.Given as goal

-- so is the rest
abbrev pub invariant-loop-place : goal.invariant-loop-place
invariant-loop-place l = is_encoded l.value ≡ is_encoded (drop l.place l.value)
