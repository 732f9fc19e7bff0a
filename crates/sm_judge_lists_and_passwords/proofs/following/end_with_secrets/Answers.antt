use Rattle.sm_judge_lists_and_passwords.proofs.SerialOrderLemmas.{secrets_finish}
use Rattle.sm_judge_lists_and_passwords.proofs.following.end_with_secrets.Goals as goal

pub returns : goal.returns
returns c = secrets_finish
