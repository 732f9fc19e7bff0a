use Rattle.sm_cron.proofs.JoinedLemmas.{unparted_of, second_of, front_broken, fault_broken}
use Rattle.sm_cron.specs.Spelling.{stepped}
use Rattle.sm_cron.proofs.SpellingLemmas.{stepped_goes}
use Rattle.sm_cron.proofs.items.stepped.Goals as goal

pub returns-in-None : goal.returns-in-None
unfolding stepped
returns-in-None c =
    unparted_of _ _ _ (stepped_goes c.args.field) c.args.text.now c.start.result c.unfinished.result
    c.unfinished.ensures c.in-None.ensures c.start.ensures

pub returns-in-Text : goal.returns-in-Text
unfolding stepped
returns-in-Text c =
    second_of _ _ _ (stepped_goes c.args.field) c.args.text.now c.in-Some.before.now c.in-Some.behind.now
    c.in-Text.first c.length.result
    c.in-Some.ensures c.in-Text.ensures c.length.ensures

pub returns-in-Front : goal.returns-in-Front
unfolding stepped
returns-in-Front c =
    front_broken _ _ _ (stepped_goes c.args.field) c.args.text.now c.in-Some.before.now c.in-Some.behind.now
    c.in-Some.ensures c.in-Front.ensures

pub returns-in-Fault : goal.returns-in-Fault
unfolding stepped
returns-in-Fault c =
    fault_broken _ _ _ (stepped_goes c.args.field) c.args.text.now c.in-Some.before.now c.in-Some.behind.now
    c.in-Some.ensures c.in-Fault.ensures
