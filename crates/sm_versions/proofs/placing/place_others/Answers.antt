use Rattle.std.proofs.Common.{arith}
use Rattle.std.proofs.lemmas.Grind.{common_steps}
use Rattle.sm_versions.proofs.LabelLemmas.{place_others_more}
use Rattle.sm_versions.proofs.placing.place_others.Goals as goal

pub loop-i-preserved : goal.loop-i-preserved
loop-i-preserved c =
    let e = place_others_more c.args.pairs.now.items c.args.labels.now c.loop-i.i c.index-labels-i.result c.args.id.now
    c.loop-i-test.true c.index-labels-i.is in
    grind (arith, common_steps)
