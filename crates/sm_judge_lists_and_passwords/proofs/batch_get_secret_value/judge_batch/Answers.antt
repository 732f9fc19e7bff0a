use Rattle.sm_judge_lists_and_passwords.specs.BatchGetSecretValue.{batch_ask}
use Rattle.sm_judge_lists_and_passwords.proofs.PageLemmas.{first_are_page_rows}
use Rattle.sm_judge_lists_and_passwords.proofs.batch_get_secret_value.judge_batch.Goals as goal

pub returns-in_err-reply-clause-rows : goal.returns-in_err-reply-clause-rows
returns-in_err-reply-clause-rows c = λ sound.
    first_are_page_rows c.args.table.now c.args.moment (batch_ask c.args.batch.now) sound

pub returns-clause-rows : goal.returns-clause-rows
returns-clause-rows c = λ sound.
    first_are_page_rows c.args.table.now c.args.moment (batch_ask c.args.batch.now) sound
