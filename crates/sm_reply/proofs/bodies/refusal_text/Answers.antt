use Rattle.sm_reply.specs.Shown.{refusal_members}
use Rattle.sm_reply.proofs.TokenLemmas.{text_written}
use Rattle.sm_reply.proofs.bodies.refusal_text.Goals as goal

pub returns : goal.returns
returns c =
    text_written (refusal_members c.args.message.now c.args.error.now) c.in_ok-out.out c.begin_object.new.self
    c.refusal_members.new.out c.end_object.new.self c.into_bytes.result c.in_ok-out.ensures c.in_ok-begin_object.ensures
    c.in_ok-refusal_members.ensures c.in_ok-end_object.ensures c.into_bytes.ensures
