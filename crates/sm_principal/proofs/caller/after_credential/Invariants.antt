use Rattle.std.proofs.Common.{◌≡◌, drop}
use Rattle.sm_principal.specs.Callers.{after_credential}
use Rattle.sm_principal.proofs.caller.after_credential.Given as goal

-- it stands at none of the places that were passed
abbrev pub invariant-loop-place : goal.invariant-loop-place
invariant-loop-place l = after_credential l.text ≡ after_credential (drop l.place l.text)
