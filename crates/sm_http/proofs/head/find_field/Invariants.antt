use Rattle.std.proofs.Common.{◌≡◌, drop, map}
use Rattle.httparse.specs.Spans.{header_bytes}
use Rattle.sm_http.specs.Heads.{values_of}
use Rattle.sm_http.proofs.head.find_field.Given as goal

-- no field of the name was passed
abbrev pub invariant-loop-index : goal.invariant-loop-index
invariant-loop-index l = values_of l.name (map (header_bytes l.bytes) (drop l.index l.headers))
    ≡ values_of l.name (map (header_bytes l.bytes) l.headers)
