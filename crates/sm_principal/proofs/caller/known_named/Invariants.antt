use Rattle.std.proofs.Common.{◌≡◌, drop}
use Rattle.sm_principal.specs.Callers.{known_named}
use Rattle.sm_principal.proofs.caller.known_named.Given as goal

-- none of those that were passed has the key
abbrev pub invariant-loop-one : goal.invariant-loop-one
invariant-loop-one l = known_named l.key l.known ≡ known_named l.key (drop l.one-index l.known)
