use Rattle.sm_judge_common.proofs.SortingLemmas.{place_at_end}
use Rattle.sm_judge_common.proofs.labels_shown.place_of.Goals as goal

pub returns-in-None : goal.returns-in-None
returns-in-None c = place_at_end c.args.label.now c.args.labels.now c.in-None.ensures
