use Rattle.std.proofs.Common.{◌≡◌, sym, subst}
use Rattle.std.specs.Prelude.{IfOk}
use Rattle.sm_follow.specs.declared.output.Output.{Output as outputs}
use Rattle.sm_follow.specs.Outputs.{IsWritten, Outgoing, output_bytes}
use Rattle.sm_follow.proofs.WritingLemmas.{position_encoded, reply_encoded}
use Rattle.sm_follow.proofs.writing.encode_output.Goals as goal

pub returns-in-Position : goal.returns-in-Position
returns-in-Position c =
    subst (λ (o : outputs). IfOk c.encode_position.result (λ bytes. (written : Outgoing) × IsWritten o written
    × (bytes ≡ output_bytes written))) (sym c.in-Position.is)
    (position_encoded c.in-Position.at c.encode_position.result c.encode_position.ensures)

pub returns-in-Reply : goal.returns-in-Reply
returns-in-Reply c =
    subst (λ (o : outputs). IfOk c.encode_said.result (λ bytes. (written : Outgoing) × IsWritten o written
    × (bytes ≡ output_bytes written))) (sym c.in-Reply.is)
    (reply_encoded c.in-Reply.said c.encode_said.result c.encode_said.ensures)
