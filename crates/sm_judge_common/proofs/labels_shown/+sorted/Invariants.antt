use Rattle.std.proofs.Common.{length}
use Rattle.sm_judge_common.proofs.labels_shown.+sorted.Given as goal

abbrev pub decreases-sorted : goal.decreases-sorted
decreases-sorted l = length l.labels.now
