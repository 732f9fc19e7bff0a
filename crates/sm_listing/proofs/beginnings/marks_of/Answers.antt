use Rattle.sm_listing.proofs.MarkLemmas.{marks_nothing, marks_more}
use Rattle.sm_listing.proofs.beginnings.marks_of.Goals as goal

pub loop-at-init : goal.loop-at-init
loop-at-init c = marks_nothing c.args.sought.now.values 100 c.requires.2

pub loop-at-preserved : goal.loop-at-preserved
loop-at-preserved c =
    marks_more c.args.part c.args.tags.now c.args.sought.now.values c.loop-at.marks _ c.loop-at.at
    c.index-tags-at.result c.text_of-text.result.now c.loop-at-test.true c.index-tags-at.is c.text_of-text.ensures
    c.mark.ensures c.loop-at.invariant
