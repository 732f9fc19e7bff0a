use Rattle.sm_judge_lists_and_passwords.proofs.SerialOrderLemmas.{all_secrets}
use Rattle.sm_judge_lists_and_passwords.proofs.following.show_each_secret.Goals as goal

pub returns : goal.returns
returns c = all_secrets
