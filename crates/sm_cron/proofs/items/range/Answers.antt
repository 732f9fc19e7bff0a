use Rattle.sm_cron.proofs.JoinedLemmas.{unparted_of, second_of, front_broken, fault_broken}
use Rattle.sm_cron.specs.Spelling.{range}
use Rattle.sm_cron.proofs.SpellingLemmas.{range_goes}
use Rattle.sm_cron.proofs.items.range.Goals as goal

pub returns-in-None : goal.returns-in-None
unfolding range
returns-in-None c =
    unparted_of _ _ _ (range_goes c.args.field) c.args.text.now c.any_point.result c.unfinished.result
    c.unfinished.ensures c.in-None.ensures c.any_point.ensures

pub returns-in-Text : goal.returns-in-Text
unfolding range
returns-in-Text c =
    second_of _ _ _ (range_goes c.args.field) c.args.text.now c.in-Some.before.now c.in-Some.behind.now
    c.in-Text.first c.range_end.result
    c.in-Some.ensures c.in-Text.ensures c.range_end.ensures

pub returns-in-Front : goal.returns-in-Front
unfolding range
returns-in-Front c =
    front_broken _ _ _ (range_goes c.args.field) c.args.text.now c.in-Some.before.now c.in-Some.behind.now
    c.in-Some.ensures c.in-Front.ensures

pub returns-in-Fault : goal.returns-in-Fault
unfolding range
returns-in-Fault c =
    fault_broken _ _ _ (range_goes c.args.field) c.args.text.now c.in-Some.before.now c.in-Some.behind.now
    c.in-Some.ensures c.in-Fault.ensures
