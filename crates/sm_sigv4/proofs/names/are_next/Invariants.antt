use Rattle.std.proofs.Common.{◌≡◌, [], length, map}
use Rattle.sm_http.specs.Reading.{pair_of}
use Rattle.sm_sigv4.specs.Names.{are_next, names_of}
use Rattle.sm_sigv4.proofs.names.are_next.Given as goal

-- those that were passed may be signed
abbrev pub invariant-loop-name : goal.invariant-loop-name
invariant-loop-name l = are_next (map pair_of l.fields) [] (names_of l.names)
    ≡ are_next (map pair_of l.fields) l.before (names_of l.left)

abbrev pub decreases-loop-name : goal.decreases-loop-name
decreases-loop-name l = length l.left
