use Rattle.std.proofs.Common.{◌∙◌}
use Rattle.std.proofs.lemmas.Bool.{not-false}
use Rattle.sm_session.specs.Replies.{framed_answer, reply_of}
use Rattle.sm_follow.proofs.WritingLemmas.{copied_whole, taken_whole}
use Rattle.sm_follow.proofs.writing.framed.Goals as goal

pub returns : goal.returns
returns c =
    copied_whole c.from_slice.result c.as_slice.result.now (framed_answer (reply_of c.args.said.now))
    c.from_slice.ensures (c.as_slice.ensures ∙ c.taken.ensures
    ∙ taken_whole c.send-sent.result (framed_answer (reply_of c.args.said.now)) _ c.send-sent.new.sink.taken _ _
    c.new-sink.ensures.taken (not-false c.send-sent.result.whole c.if-not-sent.false) c.send-sent.ensures.sent)
