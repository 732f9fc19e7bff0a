use Rattle.sm_cron.proofs.JoinedLemmas.{unparted_of, second_of, front_broken, fault_broken}
use Rattle.sm_cron.specs.Spelling.{cron_from_months}
use Rattle.sm_cron.proofs.SpellingLemmas.{months_go}
use Rattle.sm_cron.proofs.crons.from_months.Goals as goal

pub returns-in-None : goal.returns-in-None
unfolding cron_from_months
returns-in-None c =
    unparted_of _ _ _ (months_go c.args.hours c.args.days) c.args.text.now c.field_of.result c.unfinished.result
    c.unfinished.ensures c.in-None.ensures c.field_of.ensures

pub returns-in-Text : goal.returns-in-Text
unfolding cron_from_months
returns-in-Text c =
    second_of _ _ _ (months_go c.args.hours c.args.days) c.args.text.now c.in-Some.before.now c.in-Some.behind.now
    c.in-Text.months c.from_weekdays.result
    c.in-Some.ensures c.in-Text.ensures c.from_weekdays.ensures

pub returns-in-Front : goal.returns-in-Front
unfolding cron_from_months
returns-in-Front c =
    front_broken _ _ _ (months_go c.args.hours c.args.days) c.args.text.now c.in-Some.before.now c.in-Some.behind.now
    c.in-Some.ensures c.in-Front.ensures

pub returns-in-Fault : goal.returns-in-Fault
unfolding cron_from_months
returns-in-Fault c =
    fault_broken _ _ _ (months_go c.args.hours c.args.days) c.args.text.now c.in-Some.before.now c.in-Some.behind.now
    c.in-Some.ensures c.in-Fault.ensures
