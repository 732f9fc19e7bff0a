use Rattle.std.proofs.Common.{◌∙◌}
use Rattle.sm_follow.proofs.writing.put_output.Goals as goal

pub returns-in-Ok-clause-puts : goal.returns-in-Ok-clause-puts
returns-in-Ok-clause-puts g c =
    let encoded = c.in-Ok.ensures in
    c.put_bytes.ensures.puts c.args.output.now encoded.0 encoded.1 (c.as_slice.ensures ∙ encoded.2)
