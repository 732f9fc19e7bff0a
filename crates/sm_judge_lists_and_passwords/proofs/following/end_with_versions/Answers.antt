use Rattle.sm_judge_lists_and_passwords.proofs.SerialOrderLemmas.{versions_finish}
use Rattle.sm_judge_lists_and_passwords.proofs.following.end_with_versions.Goals as goal

pub returns : goal.returns
returns c = versions_finish
