use Rattle.sm_cron.proofs.JoinedLemmas.{unparted_of, second_of, front_broken, fault_broken}
use Rattle.sm_cron.specs.Spelling.{cron}
use Rattle.sm_cron.proofs.SpellingLemmas.{minute_goes}
use Rattle.sm_cron.proofs.crons.cron.Goals as goal

pub returns-in-None : goal.returns-in-None
unfolding cron
returns-in-None c =
    unparted_of _ _ _ minute_goes c.args.text.now c.minute.result c.unfinished.result c.unfinished.ensures
    c.in-None.ensures c.minute.ensures

pub returns-in-Text : goal.returns-in-Text
unfolding cron
returns-in-Text c =
    second_of _ _ _ minute_goes c.args.text.now c.in-Some.before.now c.in-Some.behind.now c.in-Text.field-0
    c.from_hours.result
    c.in-Some.ensures c.in-Text.ensures c.from_hours.ensures

pub returns-in-Front : goal.returns-in-Front
unfolding cron
returns-in-Front c =
    front_broken _ _ _ minute_goes c.args.text.now c.in-Some.before.now c.in-Some.behind.now c.in-Some.ensures
    c.in-Front.ensures

pub returns-in-Fault : goal.returns-in-Fault
unfolding cron
returns-in-Fault c =
    fault_broken _ _ _ minute_goes c.args.text.now c.in-Some.before.now c.in-Some.behind.now c.in-Some.ensures
    c.in-Fault.ensures
