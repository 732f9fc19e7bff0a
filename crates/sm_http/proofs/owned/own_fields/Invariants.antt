use Rattle.std.proofs.Common.{◌≡◌, map, take}
use Rattle.std.specs.Rc.{rc_slice_items}
use Rattle.httparse.specs.Spans.{header_bytes}
use Rattle.sm_http.specs.Reading.{pair_of}
use Rattle.sm_http.proofs.owned.own_fields.Given as goal

abbrev pub invariant-loop-header : goal.invariant-loop-header
invariant-loop-header l =
    map pair_of l.fields.items ≡ map (header_bytes (rc_slice_items l.block)) (take l.header-index l.headers)
