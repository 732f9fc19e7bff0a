use Rattle.std.proofs.Common.{sym, ap, ◌∙◌}
use Rattle.sm_session.proofs.serving.receive.Goals as goal

pub returns-clause-taken : goal.returns-clause-taken
returns-clause-taken g c =
    let law = g.met.K.Conn.source_beside in
    ap (λ p. p.0) (sym (law c.next_message.new.source) ∙ c.next_message.ensures.beside ∙ law c.args.conn.now)

pub returns-clause-sink : goal.returns-clause-sink
returns-clause-sink g c =
    let law = g.met.K.Conn.source_beside in
    ap (λ p. p.1) (sym (law c.next_message.new.source) ∙ c.next_message.ensures.beside ∙ law c.args.conn.now)
