use Rattle.sm_judge_common.proofs.MemberLemmas.{label_at}
use Rattle.sm_judge_common.proofs.members.labels_of.Goals as goal

pub label_of-requires : goal.label_of-requires
label_of-requires c = label_at c.args.texts.now c.loop-text.text-index c.text-item.result c.requires
    c.loop-text-test.true c.text-item.is
