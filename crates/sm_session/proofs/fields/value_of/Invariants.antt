use Rattle.std.proofs.Common.{◌≡◌, drop, map}
use Rattle.sm_http.specs.Heads.{values_of}
use Rattle.sm_http.specs.Reading.{pair_of}
use Rattle.sm_session.proofs.fields.value_of.Given as goal

-- no field of the name was passed
abbrev pub invariant-loop-field : goal.invariant-loop-field
invariant-loop-field l = values_of l.name (map pair_of (drop l.field-index l.fields))
    ≡ values_of l.name (map pair_of l.fields)
