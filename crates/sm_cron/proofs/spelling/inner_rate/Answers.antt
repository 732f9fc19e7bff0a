use Rattle.sm_cron.proofs.JoinedLemmas.{unparted_of, second_of, front_broken, fault_broken}
use Rattle.sm_cron.specs.Spelling.{inner}
use Rattle.sm_cron.proofs.SpellingLemmas.{rate_goes}
use Rattle.sm_cron.proofs.spelling.inner_rate.Goals as goal

pub returns-in-None : goal.returns-in-None
unfolding inner
returns-in-None c =
    unparted_of _ _ _ rate_goes c.args.text.now c.rate.result c.unfinished.result c.unfinished.ensures
    c.in-None.ensures c.rate.ensures

pub returns-in-Text : goal.returns-in-Text
unfolding inner
returns-in-Text c =
    second_of _ _ _ rate_goes c.args.text.now c.in-Some.before.now c.in-Some.behind.now c.in-Text.seconds c.word.result
    c.in-Some.ensures c.in-Text.ensures c.word.ensures

pub returns-in-Front : goal.returns-in-Front
unfolding inner
returns-in-Front c =
    front_broken _ _ _ rate_goes c.args.text.now c.in-Some.before.now c.in-Some.behind.now c.in-Some.ensures
    c.in-Front.ensures

pub returns-in-Fault : goal.returns-in-Fault
unfolding inner
returns-in-Fault c =
    fault_broken _ _ _ rate_goes c.args.text.now c.in-Some.before.now c.in-Some.behind.now c.in-Some.ensures
    c.in-Fault.ensures
