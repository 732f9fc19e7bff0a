use Rattle.std.proofs.Common.{◌≡◌, length}
use Rattle.sm_sigv4.specs.Names.{is_among, names_of}
use Rattle.sm_sigv4.proofs.names.is_among.Given as goal

-- it is none of those that were passed
abbrev pub invariant-loop-found : goal.invariant-loop-found
invariant-loop-found l = is_among (names_of l.names) l.name ≡ is_among (names_of l.left) l.name

abbrev pub decreases-loop-found : goal.decreases-loop-found
decreases-loop-found l = length l.left
