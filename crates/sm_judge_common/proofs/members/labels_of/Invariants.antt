use Rattle.std.proofs.Common.{◌≡◌, take}
use Rattle.sm_judge_common.proofs.members.labels_of.Given as goal

abbrev pub invariant-loop-text : goal.invariant-loop-text
invariant-loop-text l = l.labels.items ≡ take l.text-index l.texts
