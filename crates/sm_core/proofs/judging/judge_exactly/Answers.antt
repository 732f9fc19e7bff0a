use Rattle.sm_judge_lists_and_passwords.specs.BatchGetSecretValue.{value_question}
use Rattle.sm_core.proofs.JudgingLemmas.{is_alone, judged_alone}
use Rattle.sm_core.proofs.judging.judge_exactly.Goals as goal

pub returns-in_default : goal.returns-in_default
returns-in_default c =
    let rows = c.args.table.now in
    let request = c.args.request.now in
    judged_alone c.judge_alone.result (value_question rows c.args.person.now c.args.when.moment) rows c.args.when
    c.args.drawn.now request (is_alone request c.in_default.not-BatchGetSecretValue) c.judge_alone.ensures
