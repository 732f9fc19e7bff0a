use Rattle.sm_cron.proofs.JoinedLemmas.{unparted_of, second_of, front_broken, fault_broken}
use Rattle.sm_cron.specs.Spelling.{schedule}
use Rattle.sm_cron.proofs.SpellingLemmas.{kind_goes}
use Rattle.sm_cron.proofs.spelling.schedule.Goals as goal

pub returns-in-None : goal.returns-in-None
unfolding schedule
returns-in-None c =
    unparted_of _ _ _ kind_goes c.args.text.now c.opening.result c.unfinished.result c.unfinished.ensures
    c.in-None.ensures c.opening.ensures

pub returns-in-Text : goal.returns-in-Text
unfolding schedule
returns-in-Text c =
    second_of _ _ _ kind_goes c.args.text.now c.in-Some.before.now c.in-Some.behind.now c.in-Text.kind c.inner.result
    c.in-Some.ensures c.in-Text.ensures c.inner.ensures

pub returns-in-Front : goal.returns-in-Front
unfolding schedule
returns-in-Front c =
    front_broken _ _ _ kind_goes c.args.text.now c.in-Some.before.now c.in-Some.behind.now c.in-Some.ensures
    c.in-Front.ensures

pub returns-in-Fault : goal.returns-in-Fault
unfolding schedule
returns-in-Fault c =
    fault_broken _ _ _ kind_goes c.args.text.now c.in-Some.before.now c.in-Some.behind.now c.in-Some.ensures
    c.in-Fault.ensures
