use Rattle.std.proofs.Common.{ℕ, List, subst, ◌∙◌}
use Rattle.sm_server.specs.Shipping.{PutsBytes}
use Rattle.sm_server.proofs.PutLemmas.{frame_put}
use Rattle.sm_server.proofs.shipping.put_frame.Goals as goal

pub returns-in-Ok-clause-puts : goal.returns-in-Ok-clause-puts
returns-in-Ok-clause-puts g c =
    let put = c.put_bytes in
    let old = g.K.Sink.taken c.args.sink.now in
    let new = g.K.Sink.taken put.new.sink in
    let before : ℕ = g.K.Sink.sink_faults c.args.sink.now in
    let now : ℕ = g.K.Sink.sink_faults put.new.sink in
    frame_put c.args.frame.now c.args.count.now put.new.count old new before now put.result
    (subst (λ (bytes : List ℕ). PutsBytes put.result bytes c.args.count.now put.new.count old new before now)
    (c.as_slice.ensures ∙ c.in-Ok.ensures.1) put.ensures.puts)
