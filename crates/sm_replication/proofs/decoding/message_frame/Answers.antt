use Rattle.std.proofs.Common.{true≢false, sym}
use Rattle.sm_replication.proofs.DecodeLemmas.{message_refused}
use Rattle.sm_replication.proofs.decoding.message_frame.Goals as goal

pub returns-then-not-is_one_message : goal.returns-then-not-is_one_message
returns-then-not-is_one_message c =
    message_refused c.args.bytes.now (λ one. true≢false (sym (c.if-not-is_one_message.ensures.1 one)))
