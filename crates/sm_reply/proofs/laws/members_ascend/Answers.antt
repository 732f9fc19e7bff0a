use Rattle.sm_reply.proofs.OrderLemmas.{replies_ascend, refusals_ascend}
use Rattle.sm_reply.proofs.laws.members_ascend.Goals as goal

pub returns-clause-replies : goal.returns-clause-replies
returns-clause-replies c = replies_ascend

pub returns-clause-refusals : goal.returns-clause-refusals
returns-clause-refusals c = refusals_ascend
