use Rattle.sm_judge_lists_and_passwords.proofs.BatchGetSecretValueLemmas.{get_answer}
use Rattle.sm_judge_lists_and_passwords.proofs.batch_get_secret_value.admitted.Goals as goal

pub returns-in-Ok-clause-answer : goal.returns-in-Ok-clause-answer
returns-in-Ok-clause-answer c =
    get_answer c.judge_get.result c.args.table.now c.args.moment c.args.get.now c.judge_get.ensures
