use Rattle.sm_cron.proofs.JoinedLemmas.{unparted_of, second_of, front_broken, fault_broken}
use Rattle.sm_cron.specs.Spelling.{rate}
use Rattle.sm_cron.proofs.SpellingLemmas.{number_goes}
use Rattle.sm_cron.proofs.rates.rate.Goals as goal

pub returns-in-None : goal.returns-in-None
unfolding rate
returns-in-None c =
    unparted_of _ _ _ number_goes c.args.text.now c.number.result c.unfinished.result c.unfinished.ensures
    c.in-None.ensures c.number.ensures

pub returns-in-Text : goal.returns-in-Text
unfolding rate
returns-in-Text c =
    second_of _ _ _ number_goes c.args.text.now c.in-Some.before.now c.in-Some.behind.now c.in-Text.count c.unit.result
    c.in-Some.ensures c.in-Text.ensures c.unit.ensures

pub returns-in-Front : goal.returns-in-Front
unfolding rate
returns-in-Front c =
    front_broken _ _ _ number_goes c.args.text.now c.in-Some.before.now c.in-Some.behind.now c.in-Some.ensures
    c.in-Front.ensures

pub returns-in-Fault : goal.returns-in-Fault
unfolding rate
returns-in-Fault c =
    fault_broken _ _ _ number_goes c.args.text.now c.in-Some.before.now c.in-Some.behind.now c.in-Some.ensures
    c.in-Fault.ensures
