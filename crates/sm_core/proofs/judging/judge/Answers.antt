use Rattle.sm_table.specs.Changes.{CanMake, StandsAt}
use Rattle.sm_table.specs.Sound.{ChangeSound}
use Rattle.sm_table.specs.Sweep.{sweep}
use Rattle.sm_judge_common.proofs.JudgedLemmas.{if_change_then}
use Rattle.sm_judge_lists_and_passwords.specs.BatchGetSecretValue.{value_question}
use Rattle.sm_core.specs.Effects.{entry_of, Makes}
use Rattle.sm_core.proofs.JudgingLemmas.{judges, judgement_is_no_memory}
use Rattle.sm_core.proofs.judging.judge.Goals as goal

pub returns-in-Ok : goal.returns-in-Ok
returns-in-Ok c =
    let rows = c.args.table.now in
    let when = c.args.when in
    let key = c.args.person.now.key in
    let drawn = c.args.drawn.now in
    let request = c.args.request.now in
    let judged = c.in-Ok.judged in
    let question = value_question rows c.args.person.now when.moment in
    let is = judges question rows when key drawn request judged c.requires.sound c.requires.moment c.requires.forms
    c.requires.drawn c.in-Ok.ensures in
    record {
      judged = is.judged;
      judgement_is_no_memory = judgement_is_no_memory question rows when drawn request;
      refused = is.refused;
      unchanged = is.unchanged;
      legal = is.legal;
      makes = if_change_then judged _ (Makes rows (entry_of when key drawn request)) (λ change h. h.makes) is.change;
      can = if_change_then judged _ (CanMake rows) (λ change h. h.can) is.change;
      stands = if_change_then judged _ (StandsAt rows when.moment) (λ change h. h.stands) is.change;
      change_sound = if_change_then judged _ (ChangeSound (sweep rows when.moment)) (λ change h. h.sound) is.change;
    }

pub returns-in-Err : goal.returns-in-Err
returns-in-Err c = record {
  judged = tt;
  judgement_is_no_memory = judgement_is_no_memory (value_question c.args.table.now c.args.person.now c.args.when.moment)
      c.args.table.now c.args.when c.args.drawn.now c.args.request.now;
  refused = tt;
  unchanged = tt;
  legal = tt;
  makes = tt;
  can = tt;
  stands = tt;
  change_sound = tt;
}
