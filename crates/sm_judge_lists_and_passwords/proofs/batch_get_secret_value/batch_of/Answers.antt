use Rattle.std.proofs.Common.{◌++◌, refl, sym, ap, ◌∙◌}
use Rattle.std.proofs.lemmas.List.{take_all}
use Rattle.sm_judge_lists_and_passwords.specs.BatchGetSecretValue.{answered_to, value_in, error_in, values_of, errors_of}
use Rattle.sm_judge_lists_and_passwords.proofs.BatchGetSecretValueLemmas.{values_more, errors_more}
use Rattle.sm_judge_lists_and_passwords.proofs.batch_get_secret_value.batch_of.Goals as goal

pub loop-id-preserved : goal.loop-id-preserved
loop-id-preserved c =
    let answer = answered_to c.args.person.now c.args.table.now c.args.moment in
    let ids = c.args.ids.now in
    let id = c.id-item.result in
    let is = c.in_ok-judged.ensures.judged in (
      c.in_ok-add.ensures.errors
          ∙ ap (λ es. es ++ error_in id c.in_ok-judged.judged) c.loop-id.invariant.0
          ∙ sym (errors_more answer ids c.loop-id.id-index id c.in_ok-judged.judged
          c.loop-id-test.true c.id-item.is is),
      c.in_ok-add.ensures.values
          ∙ ap (λ vs. vs ++ value_in c.in_ok-judged.judged) c.loop-id.invariant.1
          ∙ sym (values_more answer ids c.loop-id.id-index id c.in_ok-judged.judged
          c.loop-id-test.true c.id-item.is is),
      c.loop-id.invariant.2,
    )

pub returns : goal.returns
returns c =
    let answer = answered_to c.args.person.now c.args.table.now c.args.moment in
    let all = take_all c.loop-id.id-index c.args.ids.now c.loop-id-test.false in
    let errors = c.loop-id.invariant.0 ∙ ap (errors_of answer) all in
    let values = c.loop-id.invariant.1 ∙ ap (values_of answer) all in
    rw (errors, values, c.loop-id.invariant.2) refl
