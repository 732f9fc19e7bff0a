use Rattle.std.proofs.Common.{sym, ap, ◌∙◌}
use Rattle.sm_session.proofs.serving.reply.Goals as goal

pub returns-clause-left : goal.returns-clause-left
returns-clause-left g c =
    let law = g.met.K.Conn.sink_beside in
    ap (λ p. p.0) (sym (law c.send.new.sink) ∙ c.send.ensures.beside ∙ law c.args.conn.now)

pub returns-clause-source : goal.returns-clause-source
returns-clause-source g c =
    let law = g.met.K.Conn.sink_beside in
    ap (λ p. p.1) (sym (law c.send.new.sink) ∙ c.send.ensures.beside ∙ law c.args.conn.now)
