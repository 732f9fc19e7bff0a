use Rattle.std.proofs.Common.{ℕ, List, sym, subst}
use Rattle.sm_http.specs.Framed.{Sends}
use Rattle.sm_session.proofs.ReplyLemmas.{unavailable_text}
use Rattle.sm_session.proofs.sending.send_unavailable.Goals as goal

pub returns-clause-sent : goal.returns-clause-sent
returns-clause-sent g c =
    let w = c.write_through in
    let taken = g.K.Sink.taken in
    let faults = g.K.Sink.sink_faults in
    subst (λ (text : List ℕ). Sends w.result text (taken c.args.sink.now) (taken w.new.sink) (faults c.args.sink.now)
    (faults w.new.sink))
    (sym unavailable_text) w.ensures.sent
