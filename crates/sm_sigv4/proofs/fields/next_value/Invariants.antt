use Rattle.std.proofs.Common.{◌≡◌, drop, map}
use Rattle.sm_http.specs.Heads.{values_of}
use Rattle.sm_http.specs.Reading.{pair_of}
use Rattle.sm_sigv4.proofs.fields.next_value.Given as goal

-- no field of the name was passed
abbrev pub invariant-loop-index : goal.invariant-loop-index
invariant-loop-index l = values_of l.name (map pair_of (drop l.index l.fields)) ≡ values_of l.name
    (map pair_of l.fields)
