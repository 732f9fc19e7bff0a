use Rattle.std.proofs.Common.{◌∙◌}
use Rattle.sm_http.proofs.MessageLemmas.{found_head}
use Rattle.sm_http.proofs.request.read_head.Goals as goal

pub read_fields-requires : goal.read_fields-requires
read_fields-requires c =
    found_head c.args.bytes.now c.args.end c.parse_request.new.headers c.in-Ok-Complete.spans c.requires.ends
    c.requires.within (c.parse_request.auto.headers ∙ c.requires.room)
    (rw c.in-Ok-Complete.field-0-is at c.in-Ok-Complete.ensures.complete)
    (rw c.in-Ok-Complete.field-0-is at c.in-Ok-Complete.ensures.within) c.if-spans-end.true
